-- What the proofs and the contracts above speak of, beside what 01 says.
pub mod OnTheWay
