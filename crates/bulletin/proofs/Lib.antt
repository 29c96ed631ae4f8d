-- Laws that the proofs of bulletins cite, bulletins in two byte forms, and as calls.
pub mod Reports
pub mod Results
pub mod Forms
pub mod AsCalls
-- Laws that the proofs of `text` cite.
pub mod Cuts
pub mod Squeezed
-- Laws that the proof of `file_report` cites.
pub mod Filing
