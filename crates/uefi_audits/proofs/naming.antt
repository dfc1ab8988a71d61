pub mod BankOf
