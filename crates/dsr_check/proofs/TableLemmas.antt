-- What a table of registers in the order of their names holds, and what a change of one of them leaves.
use Rattle.std.proofs.Common.{◌≡◌, ℕ, suc, ◌+◌, ◌-◌, ◌<◌, ◌≤◌, Bool, true, false, cond, List, [], ◌∷◌, ◌++◌, length, take, drop, get_or, set, Option, None, Some, Result, Ok, Err, IfOk, IfErr, refl, sym, ◌∙◌, ap, ap₂, subst, arith, inl, inr, ◌⊎◌, ◌≢◌}
use Rattle.std.specs.Cmp.Lexicographic.{slice_cmp}
use Rattle.std.specs.List.{insert, remove, refill, IsDistinct}
use Rattle.std.specs.List.Sorted.{IsSearchInRange, IsBinarySearchResult, IsNonDecreasingBy}
use Rattle.std.specs.Map.{keys_of, lookup}
use Rattle.std.specs.Ordering.{nat_cmp, ordering_index, ordering_reverse, is_lt, is_eq}
use Rattle.std.specs.Str.{bytes_eq}
use Rattle.std.specs.declared.cmp.Ordering.{Ordering}
use Rattle.std.specs.declared.cmp.Ordering.TheVariants.{Less, Greater}
use Rattle.std.proofs.lemmas.Bool.{cases_lt, cases_eq}
use Rattle.std.proofs.lemmas.Cmp.{nat_list_cmp_total, nat_list_eq_equiv}
use Rattle.std.proofs.lemmas.List.{take_at, drop_at, length-take-le, set_split, set-get_or, get_or-set_other, get_or-set_same, get_or-map, get_or_default, length-set}
use Rattle.std.proofs.lemmas.List.Edits.{length-insert, length-remove, get_or-insert_below, get_or-insert_at, get_or-insert_above, get_or-remove_below, get_or-remove_above}
use Rattle.std.proofs.lemmas.List.Sorted.{searchable_from_sorted}
use Rattle.std.proofs.lemmas.Map.{NonePasses, lookup-none, lookup-insert, none_passes_from_lookup}
use Rattle.std.proofs.lemmas.Map.Entries.{length-keys_of}
use Rattle.std.proofs.lemmas.Map.Keys.{IsDistinct-from_apart}
use Rattle.std.proofs.lemmas.Map.Lookups.{exact_bytes}
use Rattle.std.proofs.lemmas.Map.Text.{is_eq-slice_cmp}
use Rattle.std.proofs.lemmas.Slice.Eq.{bytes_eq-Decides}
use Rattle.dsr_register.specs.Table.{held_in}
use Rattle.dsr_check.specs.Support.Table.{name_at, IsInOrder, IsAt, IsGap}

abbrev pub Registers : Type 0
Registers = List (List ℕ × ℕ)

-- names

apart_by : (x y : List ℕ) (o : Ordering) → slice_cmp nat_cmp x y ≡ o → is_eq o ≡ false → bytes_eq x y ≡ false
apart_by x y o h not_equal = sym (is_eq-slice_cmp x y) ∙ ap is_eq h ∙ not_equal

back : (x y : List ℕ) → bytes_eq x y ≡ false → bytes_eq y x ≡ false
back x y h = nat_list_eq_equiv.symm y x ∙ h

turned : (x y : List ℕ) → slice_cmp nat_cmp x y ≡ Less → slice_cmp nat_cmp y x ≡ Greater
turned x y h = nat_list_cmp_total.antisymm y x ∙ ap ordering_reverse h

turned_back : (x y : List ℕ) → slice_cmp nat_cmp x y ≡ Greater → slice_cmp nat_cmp y x ≡ Less
turned_back x y h = nat_list_cmp_total.antisymm y x ∙ ap ordering_reverse h

-- a search

comparisons_rise : (table : Registers) → IsInOrder table → (name : List ℕ) → IsNonDecreasingBy (λ register. ordering_index (slice_cmp nat_cmp register.0 name)) table
comparisons_rise table order name =
    searchable_from_sorted nat_list_cmp_total (λ register. register.0) table name
    (λ k d from within. ap is_lt (turned (get_or table k d).0 (get_or table (k + 1) d).0 (rises k d within)))
  where
    rises : (k : ℕ) (d : List ℕ × ℕ) → k + 1 < length table → slice_cmp nat_cmp (get_or table k d).0 (get_or table (k + 1) d).0 ≡ Less
    rises k d within =
        subst (λ (e : List ℕ × ℕ). slice_cmp nat_cmp e.0 (get_or table (k + 1) d).0 ≡ Less) (get_or_default table k ([], 0) d (omega arith))
        (subst (λ (e : List ℕ × ℕ). slice_cmp nat_cmp (name_at table k) e.0 ≡ Less) (get_or_default table (k + 1) ([], 0) d within) (order k (k + 1) (omega arith) within))

-- a search by halves ends at the register of the name, or at the gap for it
pub searched : (table : Registers) → IsInOrder table → (name : List ℕ) (r : Result ℕ ℕ) → IsSearchInRange r (length table)
    → IsBinarySearchResult (λ register. slice_cmp nat_cmp register.0 name) table r → IfOk r (IsAt table name) × IfErr r (IsGap table name)
searched table order name (Ok place) within equal = (record { within = within; name_is = exact_bytes _ _ (equal ([], 0)) }, tt)
searched table order name (Err place) within parted = (
  tt,
  record {
    within = within;
    below = λ j lt. (parted (comparisons_rise table order name)).0 j ([], 0) (omega arith) lt;
    above = λ j le lt. (parted (comparisons_rise table order name)).1 j ([], 0) le lt;
  },
)

-- names by their places

none_by_place : (test : List ℕ → Bool) (table : Registers) → ((j : ℕ) → j < length table → test (name_at table j) ≡ false) → NonePasses test table
none_by_place test [] h = tt
none_by_place test (e ∷ es) h = (h 0 (omega arith), none_by_place test es (λ j lt. h (suc j) (omega arith)))

-- the names of a table in order are different ones
pub distinct_in_order : (table : Registers) → IsInOrder table → IsDistinct bytes_eq (keys_of table)
distinct_in_order table order = IsDistinct-from_apart bytes_eq (keys_of table) (λ i j d lt within.
    let inside : j < length table = omega (arith, within, length-keys_of table) in
    rw (get_or-map (λ e. e.0) table i ([], 0) d (omega arith), get_or-map (λ e. e.0) table j ([], 0) d inside)
    (apart_by (name_at table i) (name_at table j) Less (order i j lt inside) refl))

-- a name with a gap has no register
pub none_in_gap : (table : Registers) (name : List ℕ) (place : ℕ) → IsGap table name place → held_in table name ≡ None
none_in_gap table name place gap = lookup-none (bytes_eq name) table (none_by_place (bytes_eq name) table (λ j within.
    back (name_at table j) name (elim (cases_lt j place) [
      | inl before ↦ apart_by (name_at table j) name Less (gap.below j before) refl
      | inr after ↦ apart_by (name_at table j) name Greater (gap.above j after within) refl
    ])))

-- a register written anew in the rest, which lacks it

insert_removed : {X : Type 0} (xs : List X) (i : ℕ) (y : X) → i < length xs → insert (remove xs i) i y ≡ take i xs ++ y ∷ drop (suc i) xs
insert_removed xs i y within =
    let size : length (take i xs) ≡ i = length-take-le i xs (omega arith) in
    ap₂ (λ before after. before ++ y ∷ after) (take_at (take i xs) (drop (suc i) xs) i size) (drop_at (take i xs) (drop (suc i) xs) i size)

set_is : {X : Type 0} (xs : List X) (i : ℕ) (y : X) → i < length xs → set xs i y ≡ insert (remove xs i) i y
set_is xs i y within = set_split xs i y within ∙ sym (insert_removed xs i y within)

whole_is : {X : Type 0} (xs : List X) (i : ℕ) (d : X) → i < length xs → xs ≡ insert (remove xs i) i (get_or xs i d)
whole_is xs i d within = sym (set-get_or xs i d) ∙ set_is xs i (get_or xs i d) within

-- the rest, with the register at its place unless it holds nothing
with_held : Registers → List ℕ → ℕ → Option ℕ → Registers
with_held rest name place None = rest
with_held rest name place (Some value) = insert rest place (name, value)

none_same : (b : Bool) (name q : List ℕ) (rest : Registers) → b ≡ bytes_eq name q → lookup (bytes_eq name) rest ≡ None
    → lookup (bytes_eq q) rest ≡ cond b None (lookup (bytes_eq q) rest)
none_same true name q rest is none = subst (λ x. lookup (bytes_eq x) rest ≡ None) ((bytes_eq-Decides name q).0 (sym is)) none
none_same false name q rest is none = refl

held_with : (rest : Registers) (name : List ℕ) (place : ℕ) (held : Option ℕ) → lookup (bytes_eq name) rest ≡ None → (q : List ℕ)
    → held_in (with_held rest name place held) q ≡ cond (bytes_eq name q) held (held_in rest q)
unfolding with_held
held_with rest name place None none q = none_same (bytes_eq name q) name q rest refl none
held_with rest name place (Some value) none q =
    lookup-insert nat_list_eq_equiv name value q rest place (none_passes_from_lookup (bytes_eq name) rest none)

over : (b : Bool) (held left other : Option ℕ) → cond b left other ≡ cond b left (cond b held other)
over true held left other = refl
over false held left other = refl

changed : (rest : Registers) (name : List ℕ) (place : ℕ) (held left : Option ℕ) → lookup (bytes_eq name) rest ≡ None → (q : List ℕ)
    → held_in (with_held rest name place left) q ≡ cond (bytes_eq name q) left (held_in (with_held rest name place held) q)
changed rest name place held left none q =
    held_with rest name place left none q ∙ over (bytes_eq name q) held left (held_in rest q)
    ∙ ap (cond (bytes_eq name q) left) (sym (held_with rest name place held none q))

-- the rest lacks the name of the register that was taken out

rest_lacks : (table : Registers) → IsInOrder table → (place : ℕ) → place < length table → lookup (bytes_eq (name_at table place)) (remove table place) ≡ None
rest_lacks table order place within = lookup-none (bytes_eq (name_at table place)) (remove table place) (none_by_place (bytes_eq (name_at table place)) (remove table place) differs)
  where
    differs : (j : ℕ) → j < length (remove table place) → bytes_eq (name_at table place) (name_at (remove table place) j) ≡ false
    differs j inside =
        let size = length-remove table place within in
        elim (cases_lt j place) [
          | inl before ↦
              subst (λ (e : List ℕ × ℕ). bytes_eq (name_at table place) e.0 ≡ false) (sym (get_or-remove_below table place ([], 0) j before within))
              (back (name_at table j) (name_at table place) (apart_by (name_at table j) (name_at table place) Less (order j place before within) refl))
          | inr after ↦
              subst (λ (e : List ℕ × ℕ). bytes_eq (name_at table place) e.0 ≡ false) (sym (get_or-remove_above table place ([], 0) j after within))
              (apart_by (name_at table place) (name_at table (j + 1)) Less (order place (j + 1) (omega arith) (omega (arith, size, inside))) refl)
        ]

-- a register set at its place, taken out, or put into its gap

the_register : (table : Registers) (name : List ℕ) (place : ℕ) → IsAt table name place → (value : ℕ) × (table ≡ with_held (remove table place) name place (Some value))
unfolding with_held
the_register table name place at =
    let register = get_or table place ([], 0) in (
      register.1,
      whole_is table place ([], 0) at.within ∙ ap (λ n. insert (remove table place) place (n, register.1)) at.name_is,
    )

held_at : (table : Registers) → IsInOrder table → (name : List ℕ) (place : ℕ) → IsAt table name place → lookup (bytes_eq name) (remove table place) ≡ None
held_at table order name place at = subst (λ n. lookup (bytes_eq n) (remove table place) ≡ None) at.name_is (rest_lacks table order place at.within)

pub held_set : (table : Registers) → IsInOrder table → (name : List ℕ) (place : ℕ) → IsAt table name place → (value : ℕ) (q : List ℕ)
    → held_in (set table place (name, value)) q ≡ cond (bytes_eq name q) (Some value) (held_in table q)
unfolding with_held
held_set table order name place at value q =
    let was = the_register table name place at in
    ap (λ t. held_in t q) (set_is table place (name, value) at.within)
    ∙ changed (remove table place) name place (Some was.0) (Some value) (held_at table order name place at) q
    ∙ ap (λ t. cond (bytes_eq name q) (Some value) (held_in t q)) (sym was.1)

pub held_remove : (table : Registers) → IsInOrder table → (name : List ℕ) (place : ℕ) → IsAt table name place → (q : List ℕ)
    → held_in (remove table place) q ≡ cond (bytes_eq name q) None (held_in table q)
unfolding with_held
held_remove table order name place at q =
    let was = the_register table name place at in
    changed (remove table place) name place (Some was.0) None (held_at table order name place at) q
    ∙ ap (λ t. cond (bytes_eq name q) None (held_in t q)) (sym was.1)

pub held_insert : (table : Registers) (name : List ℕ) (place : ℕ) → IsGap table name place → (value : ℕ) (q : List ℕ)
    → held_in (insert table place (name, value)) q ≡ cond (bytes_eq name q) (Some value) (held_in table q)
unfolding with_held
held_insert table name place gap value q = changed table name place None (Some value) (none_in_gap table name place gap) q

pub held_nothing : (table : Registers) (name : List ℕ) (place : ℕ) → IsGap table name place → (q : List ℕ) → held_in table q ≡ cond (bytes_eq name q) None (held_in table q)
held_nothing table name place gap q = none_same (bytes_eq name q) name q table refl (none_in_gap table name place gap)

-- what a register holds

pub held_here : (table : Registers) → IsInOrder table → (name : List ℕ) (place : ℕ) → IsAt table name place → Some (get_or table place ([], 0)).1 ≡ held_in table name
held_here table order name place at =
    let register = get_or table place ([], 0) in
    sym (ap (λ t. held_in t name) (set_is_itself register)
    ∙ held_set table order name place at register.1 name
    ∙ ap (λ b. cond b (Some register.1) (held_in table name)) ((bytes_eq-Decides name name).1 refl))
  where
    set_is_itself : (register : List ℕ × ℕ) → table ≡ set table place (name, (get_or table place ([], 0)).1)
    set_is_itself register = sym (set-get_or table place ([], 0)) ∙ ap (λ n. set table place (n, (get_or table place ([], 0)).1)) at.name_is

-- the order stays

pub order_set : (table : Registers) → IsInOrder table → (name : List ℕ) (place : ℕ) → IsAt table name place → (value : ℕ) → IsInOrder (set table place (name, value))
order_set table order name place at value i j lt within =
    let inside : j < length table = omega (arith, within, length-set table place (name, value)) in
    rw (same i, same j) (order i j lt inside)
  where
    by : (i : ℕ) → (i ≡ place) ⊎ (i ≢ place) → name_at (set table place (name, value)) i ≡ name_at table i
    by i (inl here) =
        ap (name_at (set table place (name, value))) here
        ∙ ap (λ (e : List ℕ × ℕ). e.0) (get_or-set_same table place (name, value) ([], 0) at.within)
        ∙ sym at.name_is ∙ ap (name_at table) (sym here)
    by i (inr other) = ap (λ (e : List ℕ × ℕ). e.0) (get_or-set_other table place i (name, value) ([], 0) other)

    same : (i : ℕ) → name_at (set table place (name, value)) i ≡ name_at table i
    same i = by i (cases_eq i place)

pub order_remove : (table : Registers) → IsInOrder table → (place : ℕ) → place < length table → IsInOrder (remove table place)
order_remove table order place inside i j lt within =
    let size = length-remove table place inside in
    elim (cases_lt j place) [
      | inl before ↦ rw (below i (omega arith), below j before) (order i j lt (omega (arith, size, within)))
      | inr after ↦ elim (cases_lt i place) [
        | inl first ↦ rw (below i first, above j after) (order i (j + 1) (omega arith) (omega (arith, size, within)))
        | inr later ↦ rw (above i later, above j after) (order (i + 1) (j + 1) (omega arith) (omega (arith, size, within)))
      ]
    ]
  where
    below : (k : ℕ) → k < place → name_at (remove table place) k ≡ name_at table k
    below k before = ap (λ (e : List ℕ × ℕ). e.0) (get_or-remove_below table place ([], 0) k before inside)

    above : (k : ℕ) → place ≤ k → name_at (remove table place) k ≡ name_at table (k + 1)
    above k after = ap (λ (e : List ℕ × ℕ). e.0) (get_or-remove_above table place ([], 0) k after inside)

pub order_insert : (table : Registers) → IsInOrder table → (name : List ℕ) (place : ℕ) → IsGap table name place → (value : ℕ) → IsInOrder (insert table place (name, value))
order_insert table order name place gap value i j lt within =
    let size = length-insert table place (name, value) gap.within in
    elim (cases_lt j place) [
      | inl before ↦ rw (below i (omega arith), below j before) (order i j lt (omega (arith, gap.within)))
      | inr after ↦ later (omega (arith, size, within)) after (cases_eq j place) (cases_lt i place) (cases_eq i place)
    ]
  where
    new : Registers
    new = insert table place (name, value)

    below : (k : ℕ) → k < place → name_at new k ≡ name_at table k
    below k before = ap (λ (e : List ℕ × ℕ). e.0) (get_or-insert_below table place (name, value) ([], 0) k before gap.within)

    here : name_at new place ≡ name
    here = ap (λ (e : List ℕ × ℕ). e.0) (get_or-insert_at table place (name, value) ([], 0) gap.within)

    above : (k m : ℕ) → place ≤ m → k ≡ m + 1 → name_at new k ≡ name_at table m
    above k m after is = ap (name_at new) is ∙ ap (λ (e : List ℕ × ℕ). e.0) (get_or-insert_above table place (name, value) ([], 0) m after gap.within)

    later : j < length table + 1 → place ≤ j → (j ≡ place) ⊎ (j ≢ place) → (i < place) ⊎ (place ≤ i) → (i ≡ place) ⊎ (i ≢ place) → slice_cmp nat_cmp (name_at new i) (name_at new j) ≡ Less
    later inside after (inl at) (inl first) same = rw (below i first, ap (name_at new) at ∙ here) (gap.below i first)
    later inside after (inl at) (inr past) same = absurd (omega (arith, at, past, lt))
    later inside after (inr on) (inl first) same =
        let past : place < j = omega (arith, after, on) in
        rw (below i first, above j (j - 1) (omega arith) (omega arith)) (order i (j - 1) (omega arith) (omega arith))
    later inside after (inr on) (inr past) (inl at) =
        rw (ap (name_at new) at ∙ here, above j (j - 1) (omega arith) (omega arith)) (turned_back (name_at table (j - 1)) name (gap.above (j - 1) (omega arith) (omega arith)))
    later inside after (inr on) (inr past) (inr off) =
        rw (above i (i - 1) (omega arith) (omega arith), above j (j - 1) (omega arith) (omega arith)) (order (i - 1) (j - 1) (omega arith) (omega arith))

-- a slice written back as a whole
pub refilled : (table now : Registers) (place : ℕ) (register : List ℕ × ℕ) → now ≡ table → refill (length table) table (set now place register) ≡ set table place register
refilled table now place register is =
    ap (λ t. refill (length table) table (set t place register)) is
    ∙ take_at (set table place register) (drop (length (set table place register)) table) (length table) (length-set table place register)
