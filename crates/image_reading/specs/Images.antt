-- What is said of an image.
use Rattle.std.specs.Prelude.{ℕ, List}
use Rattle.image_reading.specs.declared.image.Image.{Image}

-- of the image's words, in as many pages as its geometry says
abbrev pub In : Image → (ℕ → List ℕ → ℕ → Type 0) → ℕ → Type 0
In image Holds place = Holds image.geometry.pages image.words.now place
