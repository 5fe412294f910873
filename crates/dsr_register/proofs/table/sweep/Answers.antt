use Rattle.std.proofs.Common.{◌≡◌, ◌∙◌, ◌+◌, ◌*◌, ◌<◌, ◌≤◌, ℕ, List, [], Option, None, length, swap, ap, sym, subst, arith}
use Rattle.std.specs.Map.{lookup}
use Rattle.std.specs.Str.{bytes_eq}
use Rattle.std.proofs.lemmas.List.Edits.{length-swap}
use Rattle.dsr_register.specs.Support.Table.{held_entries, IsRoomy}
use Rattle.dsr_register.proofs.EntryLemmas.{IsSwept, swept_past, swept_held, swept_all, swept_count, held_kept, length_kept, absent_kept}
use Rattle.dsr_register.proofs.table.sweep.Goals as goal
use Rattle.dsr_register.proofs.table.sweep.Goals.{then-is_some, else-is_some}

pub loop-place-preserved : goal.loop-place-preserved
loop-place-preserved c =
    let es = c.args.entries.now.entries in
    let now = c.loop-place.entries.entries in
    let next = c.loop-place.place + 1 in
    let none : List ℕ × Option ℕ = ([], None) in
    let within : c.loop-place.place < length es = omega (arith, c.loop-place-test.true, c.len-place-end.ensures.len) in
    elim c.if-is_some.branch [
      | then-is_some w ↦
          let swept = swept_held es now c.loop-place.kept c.loop-place.place c.index.result.now none c.loop-place.invariant.0 within c.index.ensures
          (sym c.is_some.ensures ∙ w.if-is_some.true) in
          let swapped = ap (λ m. m.entries) w.entries-is ∙ w.swap_indices.ensures.entries in
          let roomy : IsRoomy w.swap_indices.new.self =
          record {
            unique = w.swap_indices.ensures.unique;
            room = omega (arith, c.loop-place.invariant.1.room, w.swap_indices.ensures.room.0, ap length w.swap_indices.ensures.entries, length-swap now c.loop-place.kept c.loop-place.place);
          } in (
            subst (λ xs. IsSwept es xs c.if-is_some.kept next) (sym swapped)
                (subst (λ k. IsSwept es (swap now c.loop-place.kept c.loop-place.place) k next) (sym w.kept-is) swept),
            subst IsRoomy (sym w.entries-is) roomy,
          )
      | else-is_some w ↦
          let swept = swept_past es now c.loop-place.kept c.loop-place.place c.index.result.now none c.loop-place.invariant.0 within c.index.ensures
          (sym c.is_some.ensures ∙ w.if-is_some.false) in (
            subst (λ xs. IsSwept es xs c.if-is_some.kept next) (sym (ap (λ m. m.entries) w.entries-is))
                (subst (λ k. IsSwept es now k next) (sym w.kept-is) swept),
            subst IsRoomy (sym w.entries-is) c.loop-place.invariant.1,
          )
    ]

pub returns-clause-held : goal.returns-clause-held
returns-clause-held c =
    let es = c.args.entries.now.entries in
    let end : c.loop-place.place ≡ length es = omega (arith, c.loop-place-test.false, c.loop-place.auto.place-end, c.len-place-end.ensures.len) in
    ap held_entries (c.truncate.ensures.entries ∙ swept_all es c.loop-place.entries.entries c.loop-place.kept c.loop-place.place c.loop-place.invariant.0 end) ∙ held_kept es

pub returns-clause-absent : goal.returns-clause-absent
returns-clause-absent c name absent =
    let es = c.args.entries.now.entries in
    let end : c.loop-place.place ≡ length es = omega (arith, c.loop-place-test.false, c.loop-place.auto.place-end, c.len-place-end.ensures.len) in
    ap (lookup (bytes_eq name)) (c.truncate.ensures.entries ∙ swept_all es c.loop-place.entries.entries c.loop-place.kept c.loop-place.place c.loop-place.invariant.0 end)
    ∙ absent_kept (bytes_eq name) es absent

pub returns-clause-len : goal.returns-clause-len
returns-clause-len c =
    let es = c.args.entries.now.entries in
    let end : c.loop-place.place ≡ length es = omega (arith, c.loop-place-test.false, c.loop-place.auto.place-end, c.len-place-end.ensures.len) in
    let all = ap length (c.truncate.ensures.entries ∙ swept_all es c.loop-place.entries.entries c.loop-place.kept c.loop-place.place c.loop-place.invariant.0 end)
    ∙ length_kept es in
    omega (arith, all, c.requires.few)

pub returns-clause-roomy : goal.returns-clause-roomy
returns-clause-roomy c =
    let es = c.args.entries.now.entries in
    let end : c.loop-place.place ≡ length es = omega (arith, c.loop-place-test.false, c.loop-place.auto.place-end, c.len-place-end.ensures.len) in
    let few : c.loop-place.kept ≡ length (held_entries es) = swept_count es c.loop-place.entries.entries c.loop-place.kept c.loop-place.place c.loop-place.invariant.0 end in
    let half : 2 * c.loop-place.kept ≤ length c.loop-place.entries.entries = omega (arith, few, c.requires.few, c.requires.many, c.loop-place.invariant.0.len) in
    record {
      unique = c.truncate.ensures.unique;
      room = omega (arith, c.truncate.ensures.capacity half, c.loop-place.invariant.1.room);
    }
