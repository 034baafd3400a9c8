mod PowersOfTwo
mod Usage
