use Rattle.std.specs.Prelude.{List, take, drop}
use Rattle.agenda.specs.declared.agenda.Agenda.{Agenda}

-- what an agenda holds, the first one first
abbrev pub entries : {X : Type 0} → Agenda X → List X
entries a = drop a.head (take a.tail a.rows.now)
