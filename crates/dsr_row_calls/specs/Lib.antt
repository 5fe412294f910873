pub mod LoyalLogs
