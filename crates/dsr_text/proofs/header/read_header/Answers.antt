use Rattle.std.proofs.Common.{refl, inl, inr, subst}
use Rattle.dsr_names.specs.ShapeText.{IsVerdict}
use Rattle.dsr_text.proofs.HeaderLemmas.{no_header_line, no_titled, same_header, same_token, made_header}
use Rattle.dsr_text.proofs.header.read_header.Goals as goal

-- a text without a line feed does not begin with a header

pub returns-in_default-clause-refused : goal.returns-in_default-clause-refused
returns-in_default-clause-refused c = inr (refl, no_header_line c.args.title.now c.args.text.now c.in_default.ensures.absent)

pub returns-in_default-clause-when : goal.returns-in_default-clause-when
returns-in_default-clause-when c shape rest h =
    absurd (no_header_line c.args.title.now c.args.text.now c.in_default.ensures.absent shape rest h)

-- nor is there one if the first line begins with another title

pub returns-in_default-after_title-clause-refused : goal.returns-in_default-after_title-clause-refused
returns-in_default-after_title-clause-refused c = inr (
  refl,
  no_titled c.args.title.now c.args.text.now c.in-Some.line.now c.in-Some.rest.now c.requires c.in-Some.ensures.found c.in-Some.ensures.first
      c.in_default-after_title.ensures.none,
)

pub returns-in_default-after_title-clause-when : goal.returns-in_default-after_title-clause-when
returns-in_default-after_title-clause-when c shape rest h =
    absurd (no_titled c.args.title.now c.args.text.now c.in-Some.line.now c.in-Some.rest.now c.requires c.in-Some.ensures.found c.in-Some.ensures.first
    c.in_default-after_title.ensures.none shape rest h)

-- nor is there one if no shape follows it

pub returns-in-None-clause-refused : goal.returns-in-None-clause-refused
returns-in-None-clause-refused c = inr (
  refl,
  λ shape rest h.
      c.in-None.ensures.read shape h.spelled
      (same_token c.args.title.now c.args.text.now c.in-Some.line.now c.in-Some.rest.now c.requires c.in-Some.ensures.found c.in-Some.ensures.first
      c.in-Some-after_title.token.now c.in-Some-after_title.ensures.found shape rest h),
)

pub returns-in-None-clause-when : goal.returns-in-None-clause-when
returns-in-None-clause-when c shape rest h =
    absurd (c.in-None.ensures.read shape h.spelled
    (same_token c.args.title.now c.args.text.now c.in-Some.line.now c.in-Some.rest.now c.requires c.in-Some.ensures.found c.in-Some.ensures.first
    c.in-Some-after_title.token.now c.in-Some-after_title.ensures.found shape rest h))

-- a shape outside the limits

pub returns-in-Some-Err-clause-refused : goal.returns-in-Some-Err-clause-refused
returns-in-Some-Err-clause-refused c =
    let reading = c.in-Some-Err.ensures.spelled in
    let verdict = subst (IsVerdict reading.shape) c.in-Some-Err.field-0-is reading.verdict in
    inl (
      verdict.0,
      record {
        shape = reading.shape;
        rest = c.in-Some.rest.now;
        begins =
            made_header c.args.title.now c.args.text.now c.in-Some.line.now c.in-Some.rest.now c.requires c.in-Some.ensures.found c.in-Some.ensures.first
            c.in-Some-after_title.token.now c.in-Some-after_title.ensures.found reading.shape reading.spelled reading.text;
        outside = verdict.1;
      },
    )

pub returns-in-Some-Err-clause-when : goal.returns-in-Some-Err-clause-when
returns-in-Some-Err-clause-when c shape rest h =
    let verdict =
    subst (IsVerdict shape) c.in-Some-Err.field-0-is
    (c.in-Some-Err.ensures.read shape h.spelled
    (same_token c.args.title.now c.args.text.now c.in-Some.line.now c.in-Some.rest.now c.requires c.in-Some.ensures.found c.in-Some.ensures.first
    c.in-Some-after_title.token.now c.in-Some-after_title.ensures.found shape rest h)) in
    (λ ok. absurd cc, λ allowed. absurd (verdict.1 allowed))

-- a shape within them

pub returns-in-Some-Ok-clause-only : goal.returns-in-Some-Ok-clause-only
returns-in-Some-Ok-clause-only c shape rest h =
    let verdict =
    subst (IsVerdict shape) c.in-Some-Ok.field-0-is
    (c.in-Some-Ok.ensures.read shape h.spelled
    (same_token c.args.title.now c.args.text.now c.in-Some.line.now c.in-Some.rest.now c.requires c.in-Some.ensures.found c.in-Some.ensures.first
    c.in-Some-after_title.token.now c.in-Some-after_title.ensures.found shape rest h)) in (
      verdict.0,
      (same_header c.args.title.now c.args.text.now c.in-Some.line.now c.in-Some.rest.now c.requires c.in-Some.ensures.found c.in-Some.ensures.first
          shape rest h).1,
    )

pub returns-in-Some-Ok-clause-when : goal.returns-in-Some-Ok-clause-when
returns-in-Some-Ok-clause-when c shape rest h =
    let verdict =
    subst (IsVerdict shape) c.in-Some-Ok.field-0-is
    (c.in-Some-Ok.ensures.read shape h.spelled
    (same_token c.args.title.now c.args.text.now c.in-Some.line.now c.in-Some.rest.now c.requires c.in-Some.ensures.found c.in-Some.ensures.first
    c.in-Some-after_title.token.now c.in-Some-after_title.ensures.found shape rest h)) in
    (λ ok. verdict.1, λ allowed. refl)
