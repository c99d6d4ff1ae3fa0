pub mod SharedLaw
