mod SoFar
mod NoneStands
