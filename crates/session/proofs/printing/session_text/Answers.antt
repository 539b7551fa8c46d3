use Rattle.std.proofs.Common.{ℕ, List, ◌++◌, vec_items, ap, ◌∙◌}
use Rattle.books.specs.Answers.{answers}
use Rattle.books.specs.declared.entry.Call.{Call}
use Rattle.limits.specs.Openings.{under_both}
use Rattle.session.specs.Texts.{answer_lines}
use Rattle.session.proofs.printing.session_text.Goals as goal

pub returns : goal.returns
returns c =
    let told = c.in_ok-answers.ensures in
    let opens = told.opens in
    let s = under_both (vec_items c.args.tables.opening.limits.rows) told.book in
    record {
      book = told.book;
      begins = record {
        date = opens.date ∙ c.requires.1;
        accounts = opens.accounts;
        listings = opens.listings ∙ c.requires.0;
        opening = opens.opening;
        journal = opens.journal;
        layers = opens.layers;
      };
      lines =
          c.in_ok-add_answers.ensures
          ∙ ap (λ (bs : List ℕ). bs ++ answer_lines c.deref-2.result.now) c.new-text.ensures.bytes
          ∙ ap answer_lines (c.deref-2.ensures.value ∙ told.answered ∙ ap (λ (cs : List Call). answers s cs) c.deref.ensures.value);
    }
