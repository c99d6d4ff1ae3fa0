pub mod Geometry
pub mod Places
