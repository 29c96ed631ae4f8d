-- The reports of the program `dayline`, filed as they are read, and the line that it prints of a station.
pub mod Reports
pub mod Filing
pub mod Opening
pub mod Printed
