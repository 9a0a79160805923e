pub mod OnWays
