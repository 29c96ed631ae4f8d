-- Why a call is refused.
pub mod Refusals
