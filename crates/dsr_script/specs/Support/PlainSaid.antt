-- What texts say about signatures on plain statements.
use Rattle.std.specs.Prelude.{IfSome}
use Rattle.dsr_script.specs.Plain.{IsPlainStatement}
use Rattle.dsr_script.specs.SignatureText.{Spelled}

-- the description has no other statement, or a plain one
abbrev pub IsPlainSaid : Spelled → Type 0
IsPlainSaid said = IfSome said.other IsPlainStatement
