mod Worked
pub mod ReportLines
