pub mod SameReports
