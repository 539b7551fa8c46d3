use Rattle.std.proofs.Common.{◌≡◌, ℕ, ◌≤◌, List, length, Err, Result, sym, ap, ◌∙◌, subst}
use Rattle.std.proofs.lemmas.Result.{err_from_is_err_and}
use Rattle.text.specs.Chain.{◌then◌}
use Rattle.file.specs.File.{most_bytes, whole, file_says}
use Rattle.file.specs.Given.{given}
use Rattle.file.specs.Meaning.{view_of}
use Rattle.file.specs.Parts.{parts_of}
use Rattle.file.specs.Tells.{Tells}
use Rattle.file.specs.View.{View}
use Rattle.file.specs.declared.fault.Fault.{Fault}
use Rattle.file.specs.declared.fault.Unread.{Unread}
use Rattle.file.specs.declared.fault.Unread.TheVariants.{Refused, NoMemory}
use Rattle.file.proofs.Law.{short, long, lawful}
use Rattle.file.proofs.Wholes.{parts_read}
use Rattle.file.proofs.filling.tables_of.Goals as goal

-- a file that is not too long says what its parts say
by_parts : (bs : List ℕ) → length bs ≤ most_bytes → file_says bs ≡ (parts_of bs then whole)
by_parts bs h = short bs h ∙ ap (λ (x : Result View Fault). x then whole) (parts_read bs)

stops : (bs : List ℕ) → length bs ≤ most_bytes → (e : Unread) → Tells view_of (Err e) (parts_of bs) → Tells given (Err e) (file_says bs)
stops bs few (Refused q) h = sym (by_parts bs few ∙ ap (λ (x : Result View Fault). x then whole) (sym h))
stops bs few NoMemory h = tt

pub returns-then-file-gt-MOST_BYTES : goal.returns-then-file-gt-MOST_BYTES
returns-then-file-gt-MOST_BYTES c =
    let bs = c.args.file.now in
    record { value = sym (long bs c.if-file-gt-MOST_BYTES.true); matched = tt; law = lawful bs }

pub returns-in_err-reading : goal.returns-in_err-reading
returns-in_err-reading c =
    let bs = c.args.file.now in
    let p = err_from_is_err_and c.from_residual.result c.from_residual.ensures.1 in
    rw (p.1, p.2) (record { value = stops bs c.if-file-gt-MOST_BYTES.false c.in_err-reading.field-0.0 c.in_err-reading.ensures; matched = tt; law = lawful bs })

pub returns : goal.returns
returns c =
    let bs = c.args.file.now in
    let says : file_says bs ≡ whole (view_of c.in_ok-reading.reading) = by_parts bs c.if-file-gt-MOST_BYTES.false ∙ ap (λ (x : Result View Fault). x then whole) (sym c.in_ok-reading.ensures) in
    record {
      value = subst (Tells given c.complete.result) (sym says) c.complete.ensures.value;
      matched = c.complete.ensures.matched;
      law = lawful bs;
    }
