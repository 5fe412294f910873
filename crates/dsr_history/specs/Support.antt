-- What no public contract cites: the service on which the machine is built, and how a machine is stored in its
-- fields.
pub mod Machine
pub mod Service
