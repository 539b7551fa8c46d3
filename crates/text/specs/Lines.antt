-- The lines of a text, and the fields of a line.
use Rattle.std.specs.Prelude.{◌≡◌, ℕ, ◌<◌, cond, List, [], ◌∷◌, ◌++◌, map, length, Some, None, Option, ◌==◌, ◌≢◌}
use Rattle.std.specs.Borrow.{Bor}
use Rattle.std.specs.Option.{option_map}
use Rattle.std.specs.List.{join_with_byte, AllByRecursion}
use Rattle.text.specs.Fields.{Piece, piece_of}

-- none of the bytes is c
abbrev pub Lacks : ℕ → List ℕ → Type 0
Lacks c bs = AllByRecursion (λ b. b ≢ c) bs

-- ---- lines
-- the first line and what follows it, where w is the part of the line that has been read
abbrev pub line_from : List ℕ → List ℕ → Option (List ℕ × List ℕ)
line_from w [] = None
line_from w (b ∷ bs) = cond (b == 10) (Some (w, bs)) (line_from (w ++ b ∷ []) bs)

-- the first line, without its end, and what follows it
abbrev pub line_of : List ℕ → Option (List ℕ × List ℕ)
line_of bs = line_from [] bs

-- a line and what follows it, as bytes
abbrev pub bytes_in : Option (Bor (List ℕ) × Bor (List ℕ)) → Option (List ℕ × List ℕ)
bytes_in o = option_map (λ p. (p.0.now, p.1.now)) o

-- the text is the line, its end and the rest, and the line ends at the first end; or the text has no line's end
abbrev pub CutAtLineEnd : List ℕ → Option (List ℕ × List ℕ) → Type 0
CutAtLineEnd text None = Lacks 10 text
CutAtLineEnd text (Some p) = (text ≡ p.0 ++ 10 ∷ p.1) × Lacks 10 p.0

-- ---- fields
-- what stands between single spaces, where w is the part of a word that has been read
abbrev pub words_from : List ℕ → List ℕ → List (List ℕ)
words_from w [] = w ∷ []
words_from w (b ∷ bs) = cond (b == 32) (w ∷ words_from [] bs) (words_from (w ++ b ∷ []) bs)

-- what stands between single spaces
abbrev pub words_of : List ℕ → List (List ℕ)
words_of line = words_from [] line

-- the fields of a line
abbrev pub fields_of : List ℕ → List Piece
fields_of line = map piece_of (words_of line)

-- the words with one space between each two are the line, and no word has a space
pub record Spaced (line : List ℕ) (words : List (List ℕ)) : Type 0 where
  pub whole : join_with_byte 32 words ≡ line
  pub apart : AllByRecursion (Lacks 32) words
  pub some : 0 < length words
