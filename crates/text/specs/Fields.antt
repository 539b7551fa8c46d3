-- What a field says.
use Rattle.std.specs.Prelude.{ℕ, List, ℤ, Some, None, Option}
use Rattle.text.specs.Numbers.{number_of}
use Rattle.text.specs.declared.field.Field.{Field}
use Rattle.text.specs.declared.field.Field.TheVariants.{Word, Number}

-- a field by its value, wherever its bytes lie
pub data Piece : Type 0 where
  a_word : List ℕ → Piece
  a_number : ℤ → Piece

-- a word, or the number that it was read as
abbrev pub to_piece : List ℕ → Option ℤ → Piece
to_piece w None = a_word w
to_piece w (Some z) = a_number z

-- a number, or else a word
abbrev pub piece_of : List ℕ → Piece
piece_of w = to_piece w (number_of w)

-- what a field of the code stands for
abbrev pub see : Field → Piece
see (Word w) = a_word w.now
see (Number z) = a_number z
