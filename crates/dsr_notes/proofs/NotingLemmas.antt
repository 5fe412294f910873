-- How notes that are added come together.
use Rattle.std.proofs.Common.{List, [], ◌++◌, ap, sym, ◌∙◌, append_assoc}
use Rattle.std.proofs.lemmas.List.{append-nil}
use Rattle.dsr_notes.specs.Noting.{Notes, Adds}
use Rattle.dsr_notes.specs.declared.note.Note.{Note}

pub adds_none : (notes : Notes) → Adds notes notes []
adds_none notes whole = (whole, sym (append-nil notes.items))

-- first these, and then more
pub adds_then : (a b c : Notes) (first more : List Note) → Adds a b first → Adds b c more → Adds a c (first ++ more)
adds_then a b c first more one two whole =
    let later = two whole in
    let earlier = one later.0 in
    (earlier.0, later.1 ∙ ap (λ l. l ++ more) earlier.1 ∙ append_assoc a.items first more)
