pub mod Account
pub mod Standing
pub mod Why
