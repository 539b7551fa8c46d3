-- The sections of a margin file.
use Rattle.std.specs.Prelude.{ℕ}
use Rattle.forms.specs.declared.section.Section.{Section}
use Rattle.forms.specs.declared.section.Section.TheVariants.{Head, Instruments, Contracts, Accounts, Openings, Limits, Risks, Ranges, Credits, Calls}

-- H, I, C, A, O, L, R, K, X, E
abbrev pub letter_of : Section → ℕ
letter_of Head = 72
letter_of Instruments = 73
letter_of Contracts = 67
letter_of Accounts = 65
letter_of Openings = 79
letter_of Limits = 76
letter_of Risks = 82
letter_of Ranges = 75
letter_of Credits = 88
letter_of Calls = 69

-- how many lines it may have
abbrev pub most_of : Section → ℕ
most_of Head = 1
most_of Instruments = 8
most_of Contracts = 128
most_of Accounts = 32
most_of Openings = 4096
most_of Limits = 128
most_of Risks = 256
most_of Ranges = 64
most_of Credits = 64
most_of Calls = 4096
