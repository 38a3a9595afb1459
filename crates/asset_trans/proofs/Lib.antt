pub mod TransRowLemmas
