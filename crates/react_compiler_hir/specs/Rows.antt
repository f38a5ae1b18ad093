-- What the words of an identifier row mean.
use Rattle.std.specs.Prelude.{ℕ, Bool, cond, not, Some, None, Option, ◌==◌}
use Rattle.react_compiler_hir.specs.declared.rows.IdentifierRow.{IdentifierRow}

-- the position of an identifier's scope: the greatest word stands for none
abbrev pub scope_of : IdentifierRow → Option ℕ
scope_of i = cond (i.scope == 4294967295) None (Some i.scope)

-- any primitive word but 0 says that the type is primitive
abbrev pub primitive_is : IdentifierRow → Bool
primitive_is i = not (i.primitive == 0)
