-- Entries, with a number or without, and the registers with a number among them.
use Rattle.std.proofs.Common.{◌≡◌, ℕ, ◌+◌, ◌<◌, Bool, true, false, cond, List, [], ◌∷◌, ◌++◌, length, filter, is_some, Option, None, Some, refl, sym, ◌∙◌, ap, subst, arith, zero, suc, ◌≤◌, append-nil, take, drop, get_or, slice_get, set, swap, ap₂, inl, inr, ◌⊎◌, eq-or-lt_of_le, length-set}
use Rattle.std.specs.List.{IsDistinct, AllByRecursion, cons_option}
use Rattle.std.specs.Map.{keys_of, values_of, lookup, set_value}
use Rattle.std.specs.Option.{option_map, option_flatten}
use Rattle.std.specs.Str.{bytes_eq}
use Rattle.std.proofs.lemmas.Cmp.{nat_list_eq_equiv}
use Rattle.std.proofs.lemmas.List.{take_more, take_more_set, take-set, take-set-le, take_all, drop_more, drop-set-lt, get_or_default, length-take-le}
use Rattle.std.proofs.lemmas.List.Edits.{length-swap}
use Rattle.std.proofs.lemmas.Map.{lookup-none}
use Rattle.std.proofs.lemmas.Map.Entries.{none_past_head}
use Rattle.std.proofs.lemmas.Map.Keys.{IsDistinct-cons, IsDistinct-head, IsDistinct-tail}
use Rattle.std.proofs.lemmas.Slice.Eq.{bytes_eq-Decides}
use Rattle.std.proofs.lemmas.List.Elements.{filter-append}
use Rattle.dsr_register.specs.Table.{held_in}
use Rattle.dsr_register.specs.Support.Table.{held_entries, how_many, Changes}

abbrev pub Entries : Type 0
Entries = List (List ℕ × Option ℕ)

abbrev pub Registers : Type 0
Registers = List (List ℕ × ℕ)

pub same_name : (x y : List ℕ) → bytes_eq x y ≡ true → x ≡ y
same_name x y h = (bytes_eq-Decides x y).0 h

pub name_itself : (x : List ℕ) → bytes_eq x x ≡ true
name_itself x = (bytes_eq-Decides x x).1 refl

-- look-ups

with_number : (b : Bool) (number : ℕ) (held : Option ℕ) (found : Option (Option ℕ)) → held ≡ option_flatten found
    → cond b (Some number) held ≡ option_flatten (cond b (Some (Some number)) found)
with_number true number held found h = refl
with_number false number held found h = h

with_none : (b : Bool) (held : Option ℕ) (found : Option (Option ℕ)) → held ≡ option_flatten found → (b ≡ true → found ≡ None)
    → held ≡ option_flatten (cond b (Some None) found)
with_none true held found h none = h ∙ ap option_flatten (none refl)
with_none false held found h none = h

held_step : (name x : List ℕ) (o : Option ℕ) (rest : Registers) (found : Option (Option ℕ)) → held_in rest name ≡ option_flatten found
    → (bytes_eq name x ≡ true → found ≡ None)
    → held_in (cons_option (option_map (λ number. (x, number)) o) rest) name ≡ option_flatten (cond (bytes_eq name x) (Some o) found)
held_step name x None rest found h none = with_none (bytes_eq name x) (held_in rest name) found h none
held_step name x (Some number) rest found h none = with_number (bytes_eq name x) number (held_in rest name) found h

-- a register holds what its entry holds, and nothing without an entry
pub held_found : (es : Entries) (name : List ℕ) → IsDistinct bytes_eq (keys_of es)
    → held_in (held_entries es) name ≡ option_flatten (lookup (bytes_eq name) es)
held_found [] name d = refl
held_found (e ∷ es) name d =
    held_step name e.0 e.1 (held_entries es) (lookup (bytes_eq name) es)
    (held_found es name (IsDistinct-tail bytes_eq e.0 (keys_of es) d))
    (λ h. lookup-none (bytes_eq name) es (none_past_head nat_list_eq_equiv name e es d h))

-- names

apart_held : (x y : List ℕ) (o : Option ℕ) (rest : Registers) → bytes_eq x y ≡ false
    → AllByRecursion (λ other. bytes_eq x other ≡ false) (keys_of rest)
    → AllByRecursion (λ other. bytes_eq x other ≡ false) (keys_of (cons_option (option_map (λ number. (y, number)) o) rest))
apart_held x y None rest h k = k
apart_held x y (Some number) rest h k = (h, k)

apart_from_held : (x : List ℕ) (es : Entries) → AllByRecursion (λ other. bytes_eq x other ≡ false) (keys_of es)
    → AllByRecursion (λ other. bytes_eq x other ≡ false) (keys_of (held_entries es))
apart_from_held x [] h = tt
apart_from_held x (e ∷ es) h = apart_held x e.0 e.1 (held_entries es) h.0 (apart_from_held x es h.1)

distinct_held_step : (x : List ℕ) (o : Option ℕ) (rest : Registers) → AllByRecursion (λ other. bytes_eq x other ≡ false) (keys_of rest)
    → IsDistinct bytes_eq (keys_of rest) → IsDistinct bytes_eq (keys_of (cons_option (option_map (λ number. (x, number)) o) rest))
distinct_held_step x None rest apart d = d
distinct_held_step x (Some number) rest apart d = IsDistinct-cons bytes_eq x (keys_of rest) apart d

distinct_none : IsDistinct bytes_eq []
unfolding IsDistinct
distinct_none = tt

-- no register holds a number twice, if none has two entries
pub distinct_held : (es : Entries) → IsDistinct bytes_eq (keys_of es) → IsDistinct bytes_eq (keys_of (held_entries es))
distinct_held [] d = distinct_none
distinct_held (e ∷ es) d =
    distinct_held_step e.0 e.1 (held_entries es) (apart_from_held e.0 es (IsDistinct-head bytes_eq e.0 (keys_of es) d))
    (distinct_held es (IsDistinct-tail bytes_eq e.0 (keys_of es) d))

-- counts

length_held : (x : List ℕ) (o : Option ℕ) (rest : Registers) → length (cons_option (option_map (λ number. (x, number)) o) rest) ≡ how_many o + length rest
length_held x None rest = omega arith
length_held x (Some number) rest = omega arith

-- one entry set
count_set : (test : List ℕ → Bool) (es : Entries) (before after : Option ℕ) → lookup test es ≡ Some before
    → length (held_entries (set_value test es after)) + how_many before ≡ length (held_entries es) + how_many after
count_set test [] before after h = cc
count_set test (e ∷ es) before after h = by (test e.0) refl (λ k. count_set test es before after k)
  where
    by : (b : Bool) → test e.0 ≡ b
        → (lookup test es ≡ Some before → length (held_entries (set_value test es after)) + how_many before ≡ length (held_entries es) + how_many after)
        → length (held_entries (cond b ((e.0, after) ∷ es) (e ∷ set_value test es after))) + how_many before
        ≡ length (held_entries (e ∷ es)) + how_many after
    by true is rest =
        let same : Some e.1 ≡ Some before = ap (λ b. cond b (Some e.1) (lookup test es)) (sym is) ∙ h in
        let held : e.1 ≡ before = cc in
        omega (arith, length_held e.0 after (held_entries es), length_held e.0 e.1 (held_entries es), ap how_many held)
    by false is rest =
        let tail : lookup test es ≡ Some before = ap (λ b. cond b (Some e.1) (lookup test es)) (sym is) ∙ h in
        omega (arith, length_held e.0 e.1 (held_entries (set_value test es after)), length_held e.0 e.1 (held_entries es), rest tail)

-- one entry more
pub count_push : (es : Entries) (name : List ℕ) (number : ℕ) → length (held_entries (es ++ (name, Some number) ∷ [])) ≡ length (held_entries es) + 1
count_push [] name number = refl
count_push (e ∷ es) name number =
    omega (arith, length_held e.0 e.1 (held_entries (es ++ (name, Some number) ∷ [])), length_held e.0 e.1 (held_entries es), count_push es name number)

-- changes

flatten_cond : (b : Bool) (after : Option ℕ) (found : Option (Option ℕ)) → option_flatten (cond b (Some after) found) ≡ cond b after (option_flatten found)
flatten_cond true after found = refl
flatten_cond false after found = refl

-- what follows if one entry changed
pub changes : (es fs : Entries) (name : List ℕ) (found : Option (Option ℕ)) (after : Option ℕ)
    → IsDistinct bytes_eq (keys_of es) → IsDistinct bytes_eq (keys_of fs) → lookup (bytes_eq name) es ≡ found
    → ((other : List ℕ) → lookup (bytes_eq other) fs ≡ cond (bytes_eq name other) (Some after) (lookup (bytes_eq other) es))
    → length (held_entries fs) + how_many (option_flatten found) ≡ length (held_entries es) + how_many after
    → Changes (held_entries es) (held_entries fs) name (option_flatten found) after
changes es fs name found after d e is updates count =
    record {
      held = held_found es name d ∙ ap option_flatten is;
      contents = λ other.
          held_found fs other e
          ∙ (ap option_flatten (updates other)
          ∙ (flatten_cond (bytes_eq name other) after (lookup (bytes_eq other) es)
          ∙ ap (cond (bytes_eq name other) after) (sym (held_found es other d))));
      count = count;
    }

-- an entry written over
pub changes_set : (es fs : Entries) (name : List ℕ) (before after : Option ℕ)
    → IsDistinct bytes_eq (keys_of es) → IsDistinct bytes_eq (keys_of fs) → lookup (bytes_eq name) es ≡ Some before
    → ((other : List ℕ) → lookup (bytes_eq other) fs ≡ cond (bytes_eq name other) (Some after) (lookup (bytes_eq other) es))
    → fs ≡ set_value (bytes_eq name) es after → Changes (held_entries es) (held_entries fs) name before after
changes_set es fs name before after d e is updates set =
    changes es fs name (Some before) after d e is updates
    (ap (λ xs. length (held_entries xs) + how_many before) set ∙ count_set (bytes_eq name) es before after is)

-- an entry more
pub changes_push : (es fs : Entries) (name : List ℕ) (number : ℕ)
    → IsDistinct bytes_eq (keys_of es) → IsDistinct bytes_eq (keys_of fs) → lookup (bytes_eq name) es ≡ None
    → ((other : List ℕ) → lookup (bytes_eq other) fs ≡ cond (bytes_eq name other) (Some (Some number)) (lookup (bytes_eq other) es))
    → fs ≡ es ++ (name, Some number) ∷ [] → Changes (held_entries es) (held_entries fs) name None (Some number)
changes_push es fs name number d e is updates push =
    changes es fs name None (Some number) d e is updates
    (let count : length (held_entries fs) ≡ length (held_entries es) + 1 = ap (λ xs. length (held_entries xs)) push ∙ count_push es name number in omega arith)

-- without an entry for the register, an unchanged table still holds nothing for it
pub changes_nothing : (es fs : Entries) (name : List ℕ) → IsDistinct bytes_eq (keys_of es) → lookup (bytes_eq name) es ≡ None
    → fs ≡ es → Changes (held_entries es) (held_entries fs) name None None
changes_nothing es fs name d absent same =
    record {
      held = none;
      contents = λ other. ap (λ xs. held_in (held_entries xs) other) same ∙ by other (bytes_eq name other) refl;
      count = ap (λ xs. length (held_entries xs) + 0) same;
    }
  where
    none : held_in (held_entries es) name ≡ None
    none = held_found es name d ∙ ap option_flatten absent

    by : (other : List ℕ) (b : Bool) → b ≡ bytes_eq name other → held_in (held_entries es) other ≡ cond b None (held_in (held_entries es) other)
    by other true e = subst (λ x. held_in (held_entries es) x ≡ None) (same_name name other (sym e)) none
    by other false e = refl

-- the entries that hold a number

-- those of them that do
abbrev pub kept : Entries → Entries
kept es = filter (λ e. is_some e.1) es

held_kept_step : (x : List ℕ) (o : Option ℕ) (es : Entries) (rest : Registers) → held_entries es ≡ rest
    → held_entries (cond (is_some o) ((x, o) ∷ es) es) ≡ cons_option (option_map (λ number. (x, number)) o) rest
held_kept_step x None es rest h = h
held_kept_step x (Some number) es rest h = ap (λ r. (x, number) ∷ r) h

-- they hold the same numbers
pub held_kept : (es : Entries) → held_entries (kept es) ≡ held_entries es
held_kept [] = refl
held_kept (e ∷ es) = held_kept_step e.0 e.1 (kept es) (held_entries es) (held_kept es)

length_kept_step : (x : List ℕ) (o : Option ℕ) (es : Entries) (rest : Registers) → length es ≡ length rest
    → length (cond (is_some o) ((x, o) ∷ es) es) ≡ length (cons_option (option_map (λ number. (x, number)) o) rest)
length_kept_step x None es rest h = h
length_kept_step x (Some number) es rest h = omega (arith, h)

-- and are as many
pub length_kept : (es : Entries) → length (kept es) ≡ length (held_entries es)
length_kept [] = refl
length_kept (e ∷ es) = length_kept_step e.0 e.1 (kept es) (held_entries es) (length_kept es)

-- a name that has no entry has none among them
pub absent_kept : (test : List ℕ → Bool) (es : Entries) → lookup test es ≡ None → lookup test (kept es) ≡ None
absent_kept test [] h = refl
absent_kept test (e ∷ es) h = by (test e.0) refl (is_some e.1) (λ k. absent_kept test es k)
  where
    by : (b : Bool) → test e.0 ≡ b → (held : Bool) → (lookup test es ≡ None → lookup test (kept es) ≡ None)
        → lookup test (cond held (e ∷ kept es) (kept es)) ≡ None
    by true is held rest =
        let found : Some e.1 ≡ None = ap (λ b. cond b (Some e.1) (lookup test es)) (sym is) ∙ h in cc
    by false is true rest =
        ap (λ b. cond b (Some e.1) (lookup test (kept es))) is ∙ rest (ap (λ b. cond b (Some e.1) (lookup test es)) (sym is) ∙ h)
    by false is false rest = rest (ap (λ b. cond b (Some e.1) (lookup test es)) (sym is) ∙ h)

kept_push : (so_far : Entries) (e : List ℕ × Option ℕ) → is_some e.1 ≡ true → kept (so_far ++ e ∷ []) ≡ kept so_far ++ e ∷ []
kept_push so_far e h = filter-append (λ x. is_some x.1) so_far (e ∷ []) ∙ ap (λ b. kept so_far ++ cond b (e ∷ []) []) h

kept_skip : (so_far : Entries) (e : List ℕ × Option ℕ) → is_some e.1 ≡ false → kept (so_far ++ e ∷ []) ≡ kept so_far
kept_skip so_far e h =
    filter-append (λ x. is_some x.1) so_far (e ∷ []) ∙ (ap (λ b. kept so_far ++ cond b (e ∷ []) []) h ∙ append-nil (kept so_far))

-- a sweep

-- as far as this place the sweep has moved the entries that hold a number to the front, and from there on it has moved none
pub record IsSwept (all now : Entries) (front place : ℕ) : Type 0 where
  pub moved : take front now ≡ kept (take place all)
  pub rest : drop place now ≡ drop place all
  pub len : length now ≡ length all
  pub le : front ≤ place

swap_taken : {X : Type 0} (xs : List X) (k i : ℕ) (d : X) → k ≤ i → i < length xs → take (k + 1) (swap xs k i) ≡ take k xs ++ get_or xs i d ∷ []
swap_taken [] k i d le within = absurd (omega arith)
swap_taken {X} (x ∷ xs) k i d le within = by (eq-or-lt_of_le le)
  where
    l : List X
    l = x ∷ xs

    one : List X
    one = set l k (get_or l i x)

    by : (k ≡ i) ⊎ (k < i) → take (k + 1) (set one i (get_or l k x)) ≡ take k l ++ get_or l i d ∷ []
    by (inl same) =
        ap (λ j. take (k + 1) (set one j (get_or l k x))) (sym same)
        ∙ (take_more_set one k (get_or l k x) (omega (arith, length-set l k (get_or l i x), same, within))
        ∙ (ap (λ ys. ys ++ get_or l k x ∷ []) (take-set l k (get_or l i x))
        ∙ ap (λ y. take k l ++ y ∷ []) (ap (λ j. get_or l j x) same ∙ get_or_default l i x d within)))
    by (inr lt) =
        take-set-le (k + 1) one i (get_or l k x) (omega (arith, lt))
        ∙ (take_more_set l k (get_or l i x) (omega (arith, lt, within))
        ∙ ap (λ y. take k l ++ y ∷ []) (get_or_default l i x d within))

swap_dropped : {X : Type 0} (xs : List X) (k i : ℕ) → k ≤ i → drop (i + 1) (swap xs k i) ≡ drop (i + 1) xs
swap_dropped [] k i le = refl
swap_dropped (x ∷ xs) k i le =
    drop-set-lt (i + 1) (set (x ∷ xs) k (get_or (x ∷ xs) i x)) i (get_or (x ∷ xs) k x) (omega arith)
    ∙ drop-set-lt (i + 1) (x ∷ xs) k (get_or (x ∷ xs) i x) (omega (arith, le))

value_at : (es : Entries) (i : ℕ) (held : Option ℕ) (d : List ℕ × Option ℕ) → slice_get (values_of es) i ≡ Some held → (get_or es i d).1 ≡ held
value_at [] i held d h = cc
value_at (e ∷ es) zero held d h = cc
value_at (e ∷ es) (suc i) held d h = value_at es i held d h

module _ (all now : Entries) (front place : ℕ) (held : Option ℕ) (d : List ℕ × Option ℕ) (h : IsSwept all now front place) (within : place < length all)
    (value : slice_get (values_of now) place ≡ Some held) where
  heads : get_or now place d ∷ drop (place + 1) now ≡ get_or all place d ∷ drop (place + 1) all
  heads = sym (drop_more now place d (omega (arith, h.len, within))) ∙ (h.rest ∙ drop_more all place d within)

  same_head : get_or now place d ≡ get_or all place d
  same_head = let e = heads in cc

  same_rest : drop (place + 1) now ≡ drop (place + 1) all
  same_rest = let e = heads in cc

  held_here : (get_or all place d).1 ≡ held
  held_here = ap (λ e. e.1) (sym same_head) ∙ value_at now place held d value

  pub swept_past : is_some held ≡ false → IsSwept all now front (place + 1)
  swept_past none =
      record {
        moved = h.moved
            ∙ (sym (kept_skip (take place all) (get_or all place d) (ap is_some held_here ∙ none)) ∙ ap kept (sym (take_more all place d within)));
        rest = same_rest;
        len = h.len;
        le = omega (arith, h.le);
      }

  pub swept_held : is_some held ≡ true → IsSwept all (swap now front place) (front + 1) (place + 1)
  swept_held some =
      record {
        moved = swap_taken now front place d h.le (omega (arith, h.len, within))
            ∙ (ap₂ (λ xs x. xs ++ x ∷ []) h.moved same_head
            ∙ (sym (kept_push (take place all) (get_or all place d) (ap is_some held_here ∙ some)) ∙ ap kept (sym (take_more all place d within))));
        rest = swap_dropped now front place h.le ∙ same_rest;
        len = length-swap now front place ∙ h.len;
        le = omega (arith, h.le);
      }

-- at its end they are at the front
pub swept_all : (all now : Entries) (front place : ℕ) → IsSwept all now front place → place ≡ length all → take front now ≡ kept all
swept_all all now front place h end = h.moved ∙ ap kept (take_all place all (omega (arith, end)))

-- and there are as many as before
pub swept_count : (all now : Entries) (front place : ℕ) → IsSwept all now front place → place ≡ length all → front ≡ length (held_entries all)
swept_count all now front place h end =
    sym (length-take-le front now (omega (arith, h.le, h.len, end))) ∙ (ap length (swept_all all now front place h end) ∙ length_kept all)
