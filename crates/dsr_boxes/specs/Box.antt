-- What a box's word says, in plain terms (this project).
use Rattle.std.specs.Prelude.{◌≡◌, ◌⊎◌, ℕ, List, [], ◌∷◌, ◌++◌}
use Rattle.dsr_envelope.specs.declared.envelope.Envelope.{Envelope}
use Rattle.dsr_boxes.specs.declared.box_state.BoxState.{BoxState}
use Rattle.dsr_boxes.specs.declared.box_state.BoxState.TheVariants.{Empty, BeingFilled, Full, BeingEmptied}

-- what was posted is what was taken and one envelope more
abbrev pub HasOne : List Envelope → List Envelope → Type 0
HasOne posted taken = (envelope : Envelope) × (posted ≡ taken ++ envelope ∷ [])

-- what a box's word says about the envelopes posted there and taken: empty (0), being filled (1), being emptied (3): all were taken; full (2):
-- all but one
abbrev pub IsBox : ℕ → List Envelope → List Envelope → Type 0
IsBox word posted taken =
    ((word ≡ 0) × (posted ≡ taken)) ⊎ (((word ≡ 1) × (posted ≡ taken)) ⊎ (((word ≡ 2) × HasOne posted taken) ⊎ ((word ≡ 3) × (posted ≡ taken))))

-- what each state of a box says about the envelopes posted there and taken
abbrev pub IsBoxIn : BoxState → List Envelope → List Envelope → Type 0
IsBoxIn Empty posted taken = posted ≡ taken
IsBoxIn BeingFilled posted taken = posted ≡ taken
IsBoxIn Full posted taken = HasOne posted taken
IsBoxIn BeingEmptied posted taken = posted ≡ taken
