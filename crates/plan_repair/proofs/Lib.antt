mod FullRows
