-- A transcript is a text of its record.
use Rattle.std.proofs.Common.{◌≤◌, ◌^◌, refl, sym, arith}
use Rattle.std.proofs.Math.Pow.{pow_mono}
use Rattle.std.proofs.lemmas.List.{append-nil}
use Rattle.dsr_names.specs.Shape.{Shape, IsAllowed}
use Rattle.dsr_names.specs.ShapeText.{IsSpelled}
use Rattle.dsr_text.specs.Lines.{lines_text}
use Rattle.dsr_record.specs.Record.{Record}
use Rattle.dsr_record.specs.RecordText.{Fits, Spells, record_text, transcripts}

-- texts can write the shapes that are allowed
is_spelled : (shape : Shape) → IsAllowed shape → IsSpelled shape
is_spelled shape allowed =
    let few = allowed.few_replicas in
    let most = allowed.most_loyal in
    let clients = allowed.few_clients in
    let alone = allowed.replicas_alone in
    let power : 2 ^ shape.n ≤ 2 ^ 16 = pow_mono few in
    record {
      n_is_number = omega (arith, few);
      f_is_number = omega (arith, few, most);
      m_is_number = omega (arith, clients);
      replicas_exist = omega (arith, alone, power);
    }

pub spells : (r : Record) → IsAllowed r.shape → Fits r → Spells (record_text r) r
spells r allowed are =
    let lines = lines_text (transcripts r.version) r.run in
    record {
      after = lines;
      header = record { spelled = is_spelled r.shape allowed; line = refl };
      allowed = allowed;
      begins = record { each = are; cut = sym (append-nil lines) };
    }
