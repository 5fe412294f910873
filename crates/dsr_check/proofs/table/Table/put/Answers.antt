use Rattle.std.proofs.Common.{◌<◌, IsSome, refl, subst, sym, ◌∙◌, ap, arith, cond, length}
use Rattle.std.specs.Str.{bytes_eq}
use Rattle.dsr_register.specs.Table.{held_in}
use Rattle.dsr_check.specs.Support.Table.{IsAt, IsGap, IsInOrder}
use Rattle.dsr_check.proofs.TableLemmas.{held_set, held_remove, held_insert, held_nothing, none_in_gap, order_remove, order_insert, refilled}
use Rattle.dsr_check.proofs.table.Table.put.Goals as goal

pub invariant_of-self-in-Ok-None : goal.invariant_of-self-in-Ok-None
invariant_of-self-in-Ok-None c =
    subst IsInOrder (sym c.remove.ensures.items)
    (order_remove _ c.self.invariant c.in-Ok-None.place (subst (λ t. IsAt t c.args.name.now c.in-Ok-None.place) (sym c.self.view_is) c.in-Ok-None.ensures.found).within)

pub insert-requires : goal.insert-requires
insert-requires c =
    let gap : IsGap c.self.inside.registers.items c.args.name.now c.in-Err-Some.place =
    subst (λ t. IsGap t c.args.name.now c.in-Err-Some.place) (sym c.self.view_is) c.in-Err-Some.ensures.absent in
    let room : length c.self.inside.registers.items < 1024 =
    subst (λ t. length t < 1024) (sym c.self.view_is) (c.requires.room (subst IsSome (sym c.in-Err-Some.is-1) refl) (none_in_gap _ _ _ c.in-Err-Some.ensures.absent)) in
    (omega arith, (gap.within, room))

pub invariant_of-self-in-Err-Some : goal.invariant_of-self-in-Err-Some
invariant_of-self-in-Err-Some c =
    subst IsInOrder (sym c.insert.ensures.items)
    (order_insert _ c.self.invariant c.args.name.now c.in-Err-Some.place
    (subst (λ t. IsGap t c.args.name.now c.in-Err-Some.place) (sym c.self.view_is) c.in-Err-Some.ensures.absent) c.in-Err-Some.value)

pub returns-in-Ok-Some : goal.returns-in-Ok-Some
returns-in-Ok-Some c other =
    let at : IsAt c.self.inside.registers.items c.args.name.now c.in-Ok-Some.place =
    subst (λ t. IsAt t c.args.name.now c.in-Ok-Some.place) (sym c.self.view_is) c.in-Ok-Some.ensures.found in
    ap (λ t. held_in t other)
    (refilled c.self.inside.registers.items c.deref_mut.result.now c.in-Ok-Some.place (c.args.name.now, c.in-Ok-Some.value) c.deref_mut.ensures.value)
    ∙ held_set c.self.inside.registers.items c.self.invariant c.args.name.now c.in-Ok-Some.place at c.in-Ok-Some.value other
    ∙ (λ i. cond (bytes_eq c.args.name.now other) (sym c.in-Ok-Some.is-1 i) (held_in (c.self.view_is i) other))

pub returns-in-Ok-None : goal.returns-in-Ok-None
returns-in-Ok-None c other =
    let at : IsAt c.self.inside.registers.items c.args.name.now c.in-Ok-None.place =
    subst (λ t. IsAt t c.args.name.now c.in-Ok-None.place) (sym c.self.view_is) c.in-Ok-None.ensures.found in
    ap (λ t. held_in t other) c.remove.ensures.items
    ∙ held_remove c.self.inside.registers.items c.self.invariant c.args.name.now c.in-Ok-None.place at other
    ∙ (λ i. cond (bytes_eq c.args.name.now other) (sym c.in-Ok-None.is-1 i) (held_in (c.self.view_is i) other))

pub returns-in-Err-Some : goal.returns-in-Err-Some
returns-in-Err-Some c other =
    let gap : IsGap c.self.inside.registers.items c.args.name.now c.in-Err-Some.place =
    subst (λ t. IsGap t c.args.name.now c.in-Err-Some.place) (sym c.self.view_is) c.in-Err-Some.ensures.absent in
    ap (λ t. held_in t other) c.insert.ensures.items
    ∙ held_insert c.self.inside.registers.items c.args.name.now c.in-Err-Some.place gap c.in-Err-Some.value other
    ∙ (λ i. cond (bytes_eq c.args.name.now other) (sym c.in-Err-Some.is-1 i) (held_in (c.self.view_is i) other))

pub returns-in-Err-None : goal.returns-in-Err-None
returns-in-Err-None c other =
    held_nothing c.args.self.now c.args.name.now c.in-Err-None.field-0-0 c.in-Err-None.ensures.absent other
    ∙ ap (λ left. cond (bytes_eq c.args.name.now other) left (held_in c.args.self.now other)) (sym c.in-Err-None.is-1)
