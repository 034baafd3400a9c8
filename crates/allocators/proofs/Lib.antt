pub mod NumbersLaws
mod Bits
mod WordLaws
mod AllOnes
mod Searches
mod Calls
