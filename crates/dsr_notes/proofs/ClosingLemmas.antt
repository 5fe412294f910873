-- What becomes of the requests of a decision, by the history after it.
use Rattle.std.proofs.Common.{◌≡◌, ℕ, zero, suc, ◌+◌, ◌-◌, ◌<◌, ◌≤◌, Bool, true, false, cond, not, ◌&&◌, ◌||◌, nat_eq, nat_lt, ◌==◌, List, [], ◌∷◌, ◌++◌, length, reverse, get_or, refl, sym, ◌∙◌, ap, subst, arith, append_assoc, length-append, append-nil, take, drop, map, slice_get, None, Some}
use Rattle.std.specs.Bool.{Decides}
use Rattle.std.specs.Prelude.{All, if◌then◌else◌}
use Rattle.std.proofs.lemmas.Bool.Decides.{Decides-eqb, nat_tests}
use Rattle.std.proofs.lemmas.List.{length-reverse, reverse-append, take_more}
use Rattle.std.proofs.lemmas.Option.{none-some, same_Some}
use Rattle.std.proofs.Math.Seq.{get_or-append_seam}
use Rattle.std.proofs.lemmas.List.Elements.{All-append, All-nil}
use Rattle.dsr_names.specs.Shape.{Shape}
use Rattle.dsr_request.specs.Request.{Request}
use Rattle.dsr_history.specs.History.{acting, acted, rises_above, requests_of}
use Rattle.dsr_rotation.specs.Calendar.{first_round, closed_slots}
use Rattle.dsr_rotation.proofs.Lemmas.{closed_slots_count, closed_below}
use Rattle.dsr_chain.specs.Content.{content, requests_in}
use Rattle.dsr_chain.specs.declared.slot_value.SlotValue.{SlotValue}
use Rattle.dsr_chain.specs.declared.slot_value.SlotValue.TheVariants.{Idle, Act}
use Rattle.dsr_envelope.specs.Log.{due, rounds}
use Rattle.dsr_envelope.specs.declared.entry.Entry.{Entry}
use Rattle.dsr_envelope.specs.declared.due.Due.{Due}
use Rattle.dsr_envelope.specs.declared.due.Due.TheVariants.{Post as PostTo, Take as TakeFrom}
use Rattle.dsr_replica.specs.Counts.{HasCounts, takes_at}
use Rattle.dsr_replica.specs.Decided.{slot_decided, values, decided_values, decided_requests}
use Rattle.dsr_replica.proofs.Lemmas.{HasTaken, values_same, decided_same}
use Rattle.dsr_notes.specs.Closing.{closes, outcomes, requests_before}
use Rattle.dsr_notes.specs.Noting.{Notes, Adds}
use Rattle.dsr_notes.specs.Support.Rest.{closing_notes}
use Rattle.dsr_notes.specs.declared.closing.Closing.{Closing}
use Rattle.dsr_notes.specs.declared.note.Note.TheVariants.{Acted, Stale, Closed, Decided}
use Rattle.dsr_notes.proofs.NotingLemmas.{adds_then}

-- ---- the history goes on

-- what rises above a list rises above its older part
rises_part : (q : Request) (newer older : List Request) → rises_above q (newer ++ older) ≡ true → rises_above q older ≡ true
rises_part q [] older h = h
rises_part q (r ∷ newer) older h = rises_part q newer older (right (not (nat_eq r.client q.client) || nat_lt r.number q.number) (rises_above q (newer ++ older)) h)
  where
    right : (a b : Bool) → (a && b) ≡ true → b ≡ true
    right true b h = h
    right false b h = cc

-- the history with these requests is the one without the newer ones, followed by requests that rise above the others
record GoesOn (base : List Request) (history : List Request) : Type 0 where
  fresh : List Request
  parts : history ≡ reverse (acting base) ++ fresh
  rise : All (λ q. rises_above q base ≡ true) fresh

goes_step : (b : Bool) (r : Request) (newer base : List Request) → rises_above r (newer ++ base) ≡ b
    → GoesOn base (reverse (acting (newer ++ base))) → GoesOn base (reverse (cond b (r ∷ acting (newer ++ base)) (acting (newer ++ base))))
goes_step true r newer base rises on = record {
  fresh = on.fresh ++ r ∷ [];
  parts =
      reverse-append (r ∷ []) (acting (newer ++ base)) ∙ ap (λ h. h ++ r ∷ []) on.parts ∙ append_assoc (reverse (acting base)) on.fresh (r ∷ []);
  rise = All-append (λ q. rises_above q base ≡ true) on.fresh (r ∷ []) on.rise (one (rises_part r newer base rises));
}
  where
    one : rises_above r base ≡ true → All (λ q. rises_above q base ≡ true) (r ∷ [])
    one is zero d within = is
    one is (suc k) d within = absurd (omega (arith, within))
goes_step false r newer base rises on = on

goes_on : (newer base : List Request) → GoesOn base (reverse (acting (newer ++ base)))
goes_on [] base = record { fresh = []; parts = sym (append-nil (reverse (acting base))); rise = All-nil (λ q. rises_above q base ≡ true) }
goes_on (r ∷ newer) base = goes_step (rises_above r (newer ++ base)) r newer base refl (goes_on newer base)

-- ---- one request more

-- a request that rises is in the history, at the place after those that acted before
pub acts_there : (request : Request) (newer older : List Request) (d : Request) → rises_above request older ≡ true
    → (length (acting older) < length (reverse (acting (newer ++ request ∷ older))))
    × (get_or (reverse (acting (newer ++ request ∷ older))) (length (acting older)) d ≡ request)
acts_there request newer older d rises =
    let on = goes_on newer (request ∷ older) in
    let h : List Request = reverse (acting (newer ++ request ∷ older)) in
    let is : h ≡ reverse (acting older) ++ request ∷ on.fresh =
    on.parts ∙ ap (λ b. reverse (cond b (request ∷ acting older) (acting older)) ++ on.fresh) rises
    ∙ ap (λ l. l ++ on.fresh) (reverse-append (request ∷ []) (acting older)) ∙ append_assoc (reverse (acting older)) (request ∷ []) on.fresh in
    let long = length-reverse (acting older) in
    let count = ap length is ∙ length-append (reverse (acting older)) (request ∷ on.fresh) in (
      omega (arith, count, long),
      ap (λ l. get_or l (length (acting older)) d) is ∙ ap (λ n. get_or (reverse (acting older) ++ request ∷ on.fresh) n d) (sym long)
          ∙ get_or-append_seam (reverse (acting older)) request on.fresh d,
    )

above_itself : (request : Request) (older : List Request) → rises_above request (request ∷ older) ≡ true → ⊥
above_itself request older h =
    no (nat_eq request.client request.client) (nat_lt request.number request.number) (rises_above request older)
    ((Decides-eqb request.client request.client).1 refl) (not_above request.number) h
  where
    no : (a b c : Bool) → a ≡ true → b ≡ false → ((not a || b) && c) ≡ true → ⊥
    no true false c same below h = cc
    no true true c same below h = cc
    no false b c same below h = cc

    not_above : (n : ℕ) → nat_lt n n ≡ false
    not_above n = grind (arith, nat_tests)

-- a request that does not rise is not the next one in the history: that one rises above it
pub falls_there : (request : Request) (newer older : List Request) (d : Request) → rises_above request older ≡ false
    → length (acting older) < length (reverse (acting (newer ++ request ∷ older)))
    → get_or (reverse (acting (newer ++ request ∷ older))) (length (acting older)) d ≡ request → ⊥
falls_there request newer older d falls within found =
    let on = goes_on newer (request ∷ older) in
    let h : List Request = reverse (acting (newer ++ request ∷ older)) in
    let is : h ≡ reverse (acting older) ++ on.fresh =
    on.parts ∙ ap (λ b. reverse (cond b (request ∷ acting older) (acting older)) ++ on.fresh) falls in
    next (reverse (acting older)) on.fresh h (length-reverse (acting older)) is on.rise within found
  where
    next : (before fresh h : List Request) → length before ≡ length (acting older) → h ≡ before ++ fresh
        → All (λ q. rises_above q (request ∷ older) ≡ true) fresh
        → length (acting older) < length h → get_or h (length (acting older)) d ≡ request → ⊥
    next before [] h long is rise within found =
        let count = ap length is ∙ length-append before [] in omega (arith, within, long, count)
    next before (q ∷ fresh) h long is rise within found =
        let at : q ≡ request =
        sym (get_or-append_seam before q fresh d) ∙ ap (λ n. get_or (before ++ q ∷ fresh) n d) long
        ∙ ap (λ l. get_or l (length (acting older)) d) (sym is) ∙ found in
        above_itself request older (subst (λ r. rises_above r (request ∷ older) ≡ true) at (rise 0 q (omega arith)))

acted_or_not : (b : Bool) → (request : Request) (newer older : List Request) → rises_above request older ≡ b → (found : Request)
    → length (acting older) < length (reverse (acting (newer ++ request ∷ older)))
    → found ≡ get_or (reverse (acting (newer ++ request ∷ older))) (length (acting older)) found
    → (same : Bool) → Decides same (found ≡ request) → same ≡ b
acted_or_not true request newer older rises found within is same decides = decides.1 (is ∙ (acts_there request newer older found rises).1)
acted_or_not false request newer older falls found within is true decides =
    absurd (falls_there request newer older found falls within (sym is ∙ decides.0 refl))
acted_or_not false request newer older falls found within is false decides = refl

-- a request acts exactly if it is the next one in the history
pub acts_if_next : (request : Request) (history newer older : List Request) (place : ℕ) → place ≡ length (acting older)
    → history ≡ reverse (acting (newer ++ request ∷ older)) → (found : Request) → place < length history → found ≡ get_or history place found
    → (same : Bool) → Decides same (found ≡ request) → same ≡ rises_above request older
acts_if_next request history newer older place place_is history_is found within is same decides =
    acted_or_not (rises_above request older) request newer older refl found
    (subst (λ n. n < length (reverse (acting (newer ++ request ∷ older)))) place_is (subst (λ h. place < length h) history_is within))
    (is ∙ ap (λ h. get_or h place found) history_is ∙ ap (λ n. get_or (reverse (acting (newer ++ request ∷ older))) n found) place_is)
    same decides

-- and does not act if there is no next one
pub acts_not_past : (request : Request) (history newer older : List Request) (place : ℕ) → place ≡ length (acting older)
    → history ≡ reverse (acting (newer ++ request ∷ older)) → length history ≤ place → false ≡ rises_above request older
acts_not_past request history newer older place place_is history_is past = none (rises_above request older) refl
  where
    none : (b : Bool) → rises_above request older ≡ b → false ≡ b
    none true rises =
        let there = (acts_there request newer older request rises).0 in
        let count = ap length history_is in
        absurd (omega (arith, there, count, past, place_is))
    none false falls = refl

reversed_more : (done : List Request) (request : Request) (older : List Request) → reverse (done ++ request ∷ []) ++ older ≡ request ∷ (reverse done ++ older)
reversed_more done request older = ap (λ l. l ++ older) (reverse-append done (request ∷ []))

-- what becomes of one more request
pub outcomes_more : (slot : ℕ) (done : List Request) (request : Request) (older : List Request)
    → outcomes slot older (done ++ request ∷ [])
    ≡ outcomes slot older done ++ (if rises_above request (reverse done ++ older) then Acted slot (length (acting (reverse done ++ older))) request else Stale slot request) ∷ []
outcomes_more slot [] request older = refl
outcomes_more slot (r ∷ done) request older =
    ap (λ notes. (if rises_above r older then Acted slot (length (acting older)) r else Stale slot r) ∷ notes)
    (outcomes_more slot done request (r ∷ older)
    ∙ ap (λ before. outcomes slot (r ∷ older) done
    ++ (if rises_above request before then Acted slot (length (acting before)) request else Stale slot request) ∷ []) (sym (moved done)))
  where
    moved : (done : List Request) → reverse (r ∷ done) ++ older ≡ reverse done ++ r ∷ older
    moved done = ap (λ l. l ++ older) (reverse-append (r ∷ []) done) ∙ append_assoc (reverse done) (r ∷ []) older

-- ---- a request of a decision, after those before it

split_at : (xs : List Request) (i : ℕ) (d : Request) → i < length xs → xs ≡ take i xs ++ get_or xs i d ∷ drop (suc i) xs
split_at [] i d h = absurd (omega (arith, h))
split_at (x ∷ xs) zero d h = refl
split_at (x ∷ xs) (suc i) d h = ap (λ l. x ∷ l) (split_at xs i d (omega (arith, h)))

reversed_parts : (done : List Request) (request : Request) (rest older : List Request)
    → reverse (done ++ request ∷ rest) ++ older ≡ reverse rest ++ request ∷ (reverse done ++ older)
reversed_parts done request rest older =
    ap (λ l. l ++ older) (reverse-append done (request ∷ rest) ∙ ap (λ l. l ++ reverse done) (reverse-append (request ∷ []) rest)
    ∙ append_assoc (reverse rest) (request ∷ []) (reverse done))
    ∙ append_assoc (reverse rest) (request ∷ reverse done) older

module _ (slot : ℕ) (requests older : List Request) (i : ℕ) (request : Request) (inside : i < length requests)
    (is : request ≡ get_or requests i request) where
  pub before_rest : reverse requests ++ older ≡ reverse (drop (suc i) requests) ++ request ∷ (reverse (take i requests) ++ older)
  before_rest =
      ap (λ l. reverse l ++ older) (split_at requests i request inside ∙ ap (λ r. take i requests ++ r ∷ drop (suc i) requests) (sym is))
      ∙ reversed_parts (take i requests) request (drop (suc i) requests) older

  next_taken : take (i + 1) requests ≡ take i requests ++ request ∷ []
  next_taken = take_more requests i request inside ∙ ap (λ r. take i requests ++ r ∷ []) (sym is)

  acting_more : acting (reverse (take (i + 1) requests) ++ older) ≡ acting (request ∷ (reverse (take i requests) ++ older))
  acting_more = ap (λ l. acting (reverse l ++ older)) next_taken ∙ ap acting (reversed_more (take i requests) request older)

  -- if it acts, the next one that acts has the place after it
  pub next_place : rises_above request (reverse (take i requests) ++ older) ≡ true
      → length (acting (reverse (take i requests) ++ older)) + 1 ≡ length (acting (reverse (take (i + 1) requests) ++ older))
  next_place rises =
      let more = ap length (acting_more ∙ ap (λ b. cond b (request ∷ acting (reverse (take i requests) ++ older)) (acting (reverse (take i requests) ++ older))) rises) in
      omega (arith, more)

  acted_noted : rises_above request (reverse (take i requests) ++ older) ≡ true
      → outcomes slot older (take (i + 1) requests)
      ≡ outcomes slot older (take i requests) ++ Acted slot (length (acting (reverse (take i requests) ++ older))) request ∷ []
  acted_noted rises =
      ap (outcomes slot older) next_taken ∙ outcomes_more slot (take i requests) request older
      ∙ ap (λ b. outcomes slot older (take i requests)
      ++ (if b then Acted slot (length (acting (reverse (take i requests) ++ older))) request else Stale slot request) ∷ []) rises

  -- if it does not, that place stays
  pub same_place : rises_above request (reverse (take i requests) ++ older) ≡ false
      → length (acting (reverse (take i requests) ++ older)) ≡ length (acting (reverse (take (i + 1) requests) ++ older))
  same_place falls =
      sym (ap length (acting_more ∙ ap (λ b. cond b (request ∷ acting (reverse (take i requests) ++ older)) (acting (reverse (take i requests) ++ older))) falls))

  stale_noted : rises_above request (reverse (take i requests) ++ older) ≡ false
      → outcomes slot older (take (i + 1) requests) ≡ outcomes slot older (take i requests) ++ Stale slot request ∷ []
  stale_noted falls =
      ap (outcomes slot older) next_taken ∙ outcomes_more slot (take i requests) request older
      ∙ ap (λ b. outcomes slot older (take i requests)
      ++ (if b then Acted slot (length (acting (reverse (take i requests) ++ older))) request else Stale slot request) ∷ []) falls

  -- the notes after it
  pub notes_acted : (start notes later : Notes) (place : ℕ) → rises_above request (reverse (take i requests) ++ older) ≡ true
      → place ≡ length (acting (reverse (take i requests) ++ older)) → Adds start notes (outcomes slot older (take i requests))
      → Adds notes later (Acted slot place request ∷ []) → Adds start later (outcomes slot older (take (i + 1) requests))
  notes_acted start notes later place rises place_is so_far adds =
      subst (Adds start later)
      (ap (λ n. outcomes slot older (take i requests) ++ Acted slot n request ∷ []) place_is ∙ sym (acted_noted rises))
      (adds_then start notes later (outcomes slot older (take i requests)) (Acted slot place request ∷ []) so_far adds)

  pub notes_stale : (start notes later : Notes) → rises_above request (reverse (take i requests) ++ older) ≡ false
      → Adds start notes (outcomes slot older (take i requests))
      → Adds notes later (Stale slot request ∷ []) → Adds start later (outcomes slot older (take (i + 1) requests))
  notes_stale start notes later falls so_far adds =
      subst (Adds start later) (sym (stale_noted falls))
      (adds_then start notes later (outcomes slot older (take i requests)) (Stale slot request ∷ []) so_far adds)

-- ---- the slot that closes with a round

one_more : (shape : Shape) (t : ℕ) → closes shape t ≡ true → closed_slots shape (suc t) ≡ suc (closed_slots shape t)
unfolding closed_slots
one_more shape t is = ap (λ b. if b then suc (closed_slots shape t) else closed_slots shape t) is

none_yet : (shape : Shape) (t : ℕ) → closes shape t ≡ false → closed_slots shape (suc t) ≡ 0
unfolding first_round
none_yet shape t apart = early (closed_slots shape t) (closed_slots shape (suc t)) (closed_slots_count shape t) (closed_slots_count shape (suc t)) apart
  where
    early : (c d : ℕ) → c ≡ t - shape.f → d ≡ suc t - shape.f → (c + shape.f == t) ≡ false → d ≡ 0
    early c d before after apart = grind (arith, nat_tests)

module _ (shape : Shape) (log : List Entry) (t : ℕ) (closed : rounds shape log ≡ suc t) where
  -- if a slot closes with the last closed round, its decision is the latest
  pub closed_with : closes shape t ≡ true
      → decided_values shape log ≡ slot_decided shape log (closed_slots shape t) ∷ values (slot_decided shape log) (closed_slots shape t)
  closed_with is = ap (λ r. values (slot_decided shape log) (closed_slots shape r)) closed ∙ ap (values (slot_decided shape log)) (one_more shape t is)

  -- if none closes with it, none has closed
  pub closed_without : closes shape t ≡ false → decided_values shape log ≡ []
  closed_without apart = ap (λ r. values (slot_decided shape log) (closed_slots shape r)) closed ∙ ap (values (slot_decided shape log)) (none_yet shape t apart)

pub values_count : (of : ℕ → SlotValue) (count : ℕ) → length (values of count) ≡ count
values_count of zero = refl
values_count of (suc count) = ap suc (values_count of count)

-- ---- the requests of a decision

pub content_is : (value : SlotValue) (requests : List Request) → content value ≡ Some requests → requests ≡ requests_in value
content_is Idle requests e = absurd (none-some requests e)
content_is (Act batch) requests e = sym (same_Some (map (λ s. s.request) batch) requests e)

-- ---- the notes of a close

latest_at : (values : List SlotValue) (v : SlotValue) (older : List SlotValue) → values ≡ v ∷ older → (list : List SlotValue) → list ≡ reverse values
    → slice_get list (length list - 1) ≡ Some v
latest_at values v older values_are list list_is =
    let parts : list ≡ reverse older ++ v ∷ [] = list_is ∙ ap reverse values_are ∙ reverse-append (v ∷ []) older in
    let count : length list - 1 ≡ length (reverse older) =
    (let long = ap length parts ∙ length-append (reverse older) (v ∷ []) in omega (arith, long)) in
    ap (slice_get list) count ∙ ap (λ l. slice_get l (length (reverse older))) parts ∙ at_end (reverse older)
  where
    at_end : (xs : List SlotValue) → slice_get (xs ++ v ∷ []) (length xs) ≡ Some v
    at_end [] = refl
    at_end (x ∷ xs) = at_end xs

module _ (shape : Shape) (log : List Entry) (closing : Closing) (closed : rounds shape log ≡ suc closing.round)
    (all : List SlotValue) (all_is : all ≡ decided_values shape log) (list : List SlotValue) (list_is : list ≡ reverse all)
    (start told : Notes) (adds : Adds start told (Closed closing.round ∷ [])) where
  with_latest : closes shape closing.round ≡ true
      → all ≡ slot_decided shape log (closed_slots shape closing.round) ∷ values (slot_decided shape log) (closed_slots shape closing.round)
  with_latest is = all_is ∙ closed_with shape log closing.round closed is

  abbrev slot : ℕ
  slot = closed_slots shape closing.round

  abbrev older : List SlotValue
  older = values (slot_decided shape log) slot

  abbrev Told : Notes → Bool → Type 0
  Told later b = Adds start later (Closed closing.round ∷ (if b
      then Decided slot closing.kept ∷ outcomes slot (requests_before shape log slot) (requests_in (slot_decided shape log slot))
      else []))

  -- if nothing is decided, no slot closes
  pub none_noted : None ≡ slice_get list (length list - 1) → Adds start told (closing_notes shape log closing)
  none_noted none = by_closes (closes shape closing.round) refl
    where
      by_closes : (b : Bool) → closes shape closing.round ≡ b → Told told b
      by_closes true is = absurd (none-some (slot_decided shape log slot) (none ∙ latest_at all (slot_decided shape log slot) older (with_latest is) list list_is))
      by_closes false is = adds

  -- the notes of the latest decision are those of the slot that closes
  pub decision_noted : (decision : SlotValue) → Some decision ≡ slice_get list (length list - 1)
      → (closes shape closing.round ≡ true → closing.acted ≡ length (acting (requests_before shape log slot))) → (later : Notes)
      → ((older : List SlotValue) → all ≡ decision ∷ older → closing.acted ≡ length (acting (requests_of (map requests_in older)))
      → Adds told later (Decided (length older) closing.kept ∷ outcomes (length older) (requests_of (map requests_in older)) (requests_in decision)))
      → Adds start later (closing_notes shape log closing)
  decision_noted decision some acted_is later noted = by_closes (closes shape closing.round) refl
    where
      by_closes : (b : Bool) → closes shape closing.round ≡ b → Told later b
      by_closes true is =
          let value = slot_decided shape log slot in
          let same : decision ≡ value = same_Some decision value (some ∙ latest_at all value older (with_latest is) list list_is) in
          let before = requests_of (map requests_in older) in
          subst (Adds start later)
          (ap (λ n. Closed closing.round ∷ Decided n closing.kept ∷ outcomes n before (requests_in decision)) (values_count (slot_decided shape log) slot)
          ∙ ap (λ d. Closed closing.round ∷ Decided slot closing.kept ∷ outcomes slot before (requests_in d)) same)
          (adds_then start told later (Closed closing.round ∷ [])
          (Decided (length older) closing.kept ∷ outcomes (length older) before (requests_in decision)) adds
          (noted older (with_latest is ∙ ap (λ d. d ∷ older) (sym same)) (acted_is is)))
      by_closes false is = absurd (none-some decision (sym (some ∙ empty)))
        where
          nothing : list ≡ []
          nothing = list_is ∙ ap reverse (all_is ∙ closed_without shape log closing.round closed is)

          empty : slice_get list (length list - 1) ≡ None
          empty = ap (λ l. slice_get l (length l - 1)) nothing

-- ---- one entry more: for the caller, which counts what acted before the take

-- all envelopes of the closed rounds were taken
taken_all : (shape : Shape) (log : List Entry) (round : ℕ) → HasCounts shape log round → HasTaken shape log round
taken_all shape log round counts p inside =
    let count = counts.takes p inside in
    let enough = at_least (due shape log) round p in
    omega (arith, count, enough)
  where
    at_least : (d : Due) (t q : ℕ) → t ≤ takes_at d t q
    at_least (PostTo k) t q = omega arith
    at_least (TakeFrom k) t q = grind (arith, nat_tests)

-- before the slot that closes with one more entry, as many requests act as have acted
pub acted_still : (shape : Shape) (entry : Entry) (log : List Entry) → HasCounts shape log (rounds shape log)
    → length (acted (decided_requests shape log)) ≡ length (acting (requests_before shape (entry ∷ log) (closed_slots shape (rounds shape log))))
acted_still shape entry log counts =
    ap (λ vs. length (acted (map requests_in vs)))
    (sym (values_same (slot_decided shape (entry ∷ log)) (slot_decided shape log) (closed_slots shape (rounds shape log))
    (λ slot closed. decided_same shape entry log (rounds shape log) slot (taken_all shape log (rounds shape log) counts)
    (closed_below shape slot (rounds shape log) closed))))

-- ---- what a replica of the shape says of its log, by the shape itself

pub values_by : (shape own : Shape) → own ≡ shape → (log : List Entry) (all : List SlotValue) → all ≡ decided_values own log → all ≡ decided_values shape log
values_by shape own same log all is = is ∙ ap (λ s. decided_values s log) same
