mod Shares
mod Phases
mod Ends
