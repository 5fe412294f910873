use Rattle.std.proofs.Common.{rules, subst, sym, ◌∙◌, arith}
use Rattle.std.proofs.lemmas.Bool.{false≢true}
use Rattle.dsr_text.proofs.LinesLemmas.{no_feed, none_read, no_follower, bad_after, one_more, no_lines, only_lines, no_rest, shorter}
use Rattle.dsr_text.proofs.lines.take_lines.Goals as goal

-- without a line feed in the rest, the text is not lines
pub returns-in_default-clause-when : goal.returns-in_default-clause-when
returns-in_default-clause-when g c all each e =
    let t = g.T.TakesLines in
    let rest = c.loop-rest.rest.now in
    let shape = t.shape c.args.taker.now in
    let s = c.loop-rest.invariant.0 in
    let none = no_feed t.kind c.requires.clean shape s.lines rest c.in_default.ensures.absent in
    absurd (no_lines t.kind c.requires.clean shape c.args.text.now (t.gives c.loop-rest.taker) rest c.loop-rest.number s (search rules) none all each e)

-- nor is it if a line is read as none: that is the first bad one
pub returns-in_default-2-clause-refused : goal.returns-in_default-2-clause-refused
returns-in_default-2-clause-refused g c =
    let t = g.T.TakesLines in
    let rest = c.loop-rest.rest.now in
    let shape = t.shape c.args.taker.now in
    let s = c.loop-rest.invariant.0 in
    let none =
    none_read t.kind c.requires.clean shape s.lines rest c.in-Some.line.now c.in-Some.after.now c.in-Some.ensures.found c.in-Some.ensures.first
    (rw c.in_default-2.is at c.in_ok-line.ensures.read) in
    bad_after t.kind c.requires.clean shape c.args.text.now (t.gives c.loop-rest.taker) rest c.loop-rest.number s (search rules) none

pub returns-in_default-2-clause-when : goal.returns-in_default-2-clause-when
returns-in_default-2-clause-when g c all each e =
    let t = g.T.TakesLines in
    let rest = c.loop-rest.rest.now in
    let shape = t.shape c.args.taker.now in
    let s = c.loop-rest.invariant.0 in
    let none =
    none_read t.kind c.requires.clean shape s.lines rest c.in-Some.line.now c.in-Some.after.now c.in-Some.ensures.found c.in-Some.ensures.first
    (rw c.in_default-2.is at c.in_ok-line.ensures.read) in
    absurd (no_lines t.kind c.requires.clean shape c.args.text.now (t.gives c.loop-rest.taker) rest c.loop-rest.number s (search rules) none all each e)

-- nor is it if a line cannot follow: that is the first bad one
pub returns-then-not-branch-clause-refused : goal.returns-then-not-branch-clause-refused
returns-then-not-branch-clause-refused g c =
    let t = g.T.TakesLines in
    let rest = c.loop-rest.rest.now in
    let shape = t.shape c.args.taker.now in
    let s = c.loop-rest.invariant.0 in
    let cannot : t.kind.CanFollow shape s.lines c.in-Some-2.line → ⊥ =
    λ can.
    false≢true (sym c.if-not-branch.true
    ∙ (c.in_ok-take.ensures.when s.lines (c.in_ok-line.ensures.stays s.lines s.gives)).1
    (subst (λ x. t.kind.CanFollow x s.lines c.in-Some-2.line) (sym (c.in_ok-line.ensures.shape ∙ c.loop-rest.invariant.1)) can)) in
    let none =
    no_follower t.kind c.requires.clean shape s.lines rest c.in-Some.line.now c.in-Some.after.now c.in-Some.ensures.found c.in-Some.ensures.first c.in-Some-2.line
    (rw c.in-Some-2.is at c.in_ok-line.ensures.read) cannot in
    bad_after t.kind c.requires.clean shape c.args.text.now (t.gives c.loop-rest.taker) rest c.loop-rest.number s (search rules) none

pub returns-then-not-branch-clause-when : goal.returns-then-not-branch-clause-when
returns-then-not-branch-clause-when g c all each e =
    let t = g.T.TakesLines in
    let rest = c.loop-rest.rest.now in
    let shape = t.shape c.args.taker.now in
    let s = c.loop-rest.invariant.0 in
    let cannot : t.kind.CanFollow shape s.lines c.in-Some-2.line → ⊥ =
    λ can.
    false≢true (sym c.if-not-branch.true
    ∙ (c.in_ok-take.ensures.when s.lines (c.in_ok-line.ensures.stays s.lines s.gives)).1
    (subst (λ x. t.kind.CanFollow x s.lines c.in-Some-2.line) (sym (c.in_ok-line.ensures.shape ∙ c.loop-rest.invariant.1)) can)) in
    let none =
    no_follower t.kind c.requires.clean shape s.lines rest c.in-Some.line.now c.in-Some.after.now c.in-Some.ensures.found c.in-Some.ensures.first c.in-Some-2.line
    (rw c.in-Some-2.is at c.in_ok-line.ensures.read) cannot in
    absurd (no_lines t.kind c.requires.clean shape c.args.text.now (t.gives c.loop-rest.taker) rest c.loop-rest.number s (search rules) none all each e)

-- the line is taken in
pub loop-rest-preserved : goal.loop-rest-preserved
loop-rest-preserved g c =
    let t = g.T.TakesLines in
    let rest = c.loop-rest.rest.now in
    let shape = t.shape c.args.taker.now in
    let s = c.loop-rest.invariant.0 in
    let line = c.in-Some-2.line in
    let still = c.in_ok-line.ensures.stays s.lines s.gives in
    let same = c.in_ok-line.ensures.shape ∙ c.loop-rest.invariant.1 in
    let can : t.kind.CanFollow shape s.lines line =
    subst (λ x. t.kind.CanFollow x s.lines line) same ((c.in_ok-take.ensures.when s.lines still).0 c.if-not-branch.false) in
    let less = shorter rest c.in-Some.line.now c.in-Some.after.now c.in-Some.ensures.found in (
      one_more t.kind c.requires.clean shape c.args.text.now (t.gives c.loop-rest.taker) rest c.loop-rest.number s c.in-Some.line.now
          c.in-Some.after.now c.in-Some.ensures.found c.in-Some.ensures.first line (rw c.in-Some-2.is at c.in_ok-line.ensures.read) can
          (t.gives c.take.new.self) (c.in_ok-take.ensures.taken c.if-not-branch.false s.lines still),
      c.in_ok-take.ensures.shape ∙ same,
      omega (arith, less, c.loop-rest.invariant.2),
    )

-- once no line is left, the text does not consist of other lines
pub returns-clause-only : goal.returns-clause-only
returns-clause-only g c all each e =
    let t = g.T.TakesLines in
    only_lines t.kind c.requires.clean (t.shape c.args.taker.now) c.args.text.now (t.gives c.loop-rest.taker) c.loop-rest.rest.now c.loop-rest.number c.loop-rest.invariant.0
    (no_rest c.loop-rest.rest.now c.is_empty.result c.is_empty.ensures c.loop-rest-test.false) all each e
