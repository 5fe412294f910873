-- How a name is stored in an array: the bytes after it are 0.
use Rattle.std.specs.Prelude.{◌≡◌, ℕ, List, length, take}
use Rattle.std.proofs.Common.{ap₂}
use Rattle.dsr_base.specs.Support.Padded.{IsPadded, padded, length_items, padded_items}
use Rattle.dsr_request.specs.NameText.{IsName}
use Rattle.dsr_request.specs.declared.name.Name.TheInside.{Inside}

-- the first bytes are a name, and those after it are 0
pub record IsNameFields (a : Inside) : Type 0 where
  pub name : IsName (take a.len a.bytes)
  pub places : IsPadded 32 0 a.bytes a.len

-- the fields with these bytes and this length
abbrev fields_of : List ℕ → ℕ → Inside
fields_of bytes len = record { bytes = bytes; len = len }

-- the fields that hold this name
abbrev pub name_fields : List ℕ → Inside
name_fields name = fields_of (padded 32 0 name) (length name)

-- the fields that hold the name in some fields are those fields
pub fields_back : (a : Inside) → IsNameFields a → name_fields (take a.len a.bytes) ≡ a
fields_back a h = ap₂ fields_of (padded_items 32 a.len 0 a.bytes h.places) (length_items 32 a.len 0 a.bytes h.places)
