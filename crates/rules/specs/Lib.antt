-- The calls as rules: what a call asks of whom, what it does to that station, to the store, and to its bytes, whatever their form; runs
-- of calls, the isolation of stations, and settling in portions (document 01, "Who names a station", "Numbers at the gate").
pub mod Calls
pub mod Dry
pub mod Rules
pub mod Reaction
pub mod Step
pub mod Runs
pub mod Naming
pub mod Refusals
pub mod Forms
pub mod Isolation
pub mod Portions
pub mod ProofTable
