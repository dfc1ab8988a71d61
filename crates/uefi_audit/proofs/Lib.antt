pub mod Requests
pub mod EventsPrinted
pub mod CheckPrinted
pub mod Replayed
pub mod Verifying
pub mod QuoteChecks
pub mod WholeLogs
