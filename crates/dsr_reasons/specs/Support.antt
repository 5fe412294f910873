-- How a writer represents its text. No public contract cites this: it serves `impl Model`.
pub mod WriterFields
