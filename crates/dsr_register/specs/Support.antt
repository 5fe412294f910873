-- How a table is stored in its entries, and what its fields satisfy: these serve the contracts and `impl Model` of the
-- table.
pub mod Table
pub mod TableFields
