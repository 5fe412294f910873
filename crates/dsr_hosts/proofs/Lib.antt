mod Backs
mod Calling
mod Closing
mod Making
mod Operations
mod Runs
