mod BestPairs
mod RowPairs
mod Written
