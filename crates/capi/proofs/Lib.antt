-- What the arrays are given: small numbers, which the proofs of the calls cite.
pub mod Within
