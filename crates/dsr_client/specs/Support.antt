-- How a client is stored in its fields. No public contract cites this: it serves `impl Model`.
pub mod Client
