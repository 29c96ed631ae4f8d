-- Laws on a filed report.
pub mod Filed
-- Laws on a report put in its slot.
pub mod Placed
