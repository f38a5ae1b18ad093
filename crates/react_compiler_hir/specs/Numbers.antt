-- The kinds in the order of their numbers: the kind with the number n stands at the position n.
use Rattle.std.specs.Prelude.{List, [], ◌∷◌}
use Rattle.react_compiler_hir.specs.declared.kinds.BlockKind.{BlockKind}
use Rattle.react_compiler_hir.specs.declared.kinds.BlockKind.TheVariants as block
use Rattle.react_compiler_hir.specs.declared.kinds.TerminalKind.{TerminalKind}
use Rattle.react_compiler_hir.specs.declared.kinds.TerminalKind.TheVariants as terminal
use Rattle.react_compiler_hir.specs.declared.kinds.InstructionKind.{InstructionKind}
use Rattle.react_compiler_hir.specs.declared.kinds.InstructionKind.TheVariants as instruction

abbrev pub block_kinds : List BlockKind
block_kinds =
    block.Block ∷
    block.Value ∷
    block.Loop ∷
    block.Sequence ∷
    block.Catch ∷
    []

abbrev pub terminal_kinds : List TerminalKind
terminal_kinds =
    terminal.Unreachable ∷
    terminal.Throw ∷
    terminal.Return ∷
    terminal.Goto ∷
    terminal.If ∷
    terminal.Branch ∷
    terminal.Switch ∷
    terminal.DoWhile ∷
    terminal.While ∷
    terminal.For ∷
    terminal.ForOf ∷
    terminal.ForIn ∷
    terminal.Logical ∷
    terminal.Ternary ∷
    terminal.Optional ∷
    terminal.Label ∷
    terminal.Sequence ∷
    terminal.MaybeThrow ∷
    terminal.Try ∷
    terminal.Scope ∷
    terminal.PrunedScope ∷
    []

abbrev pub instruction_kinds : List InstructionKind
instruction_kinds =
    instruction.LoadLocal ∷
    instruction.LoadContext ∷
    instruction.DeclareLocal ∷
    instruction.DeclareContext ∷
    instruction.StoreLocal ∷
    instruction.StoreContext ∷
    instruction.Destructure ∷
    instruction.Primitive ∷
    instruction.JSXText ∷
    instruction.BinaryExpression ∷
    instruction.NewExpression ∷
    instruction.CallExpression ∷
    instruction.MethodCall ∷
    instruction.UnaryExpression ∷
    instruction.TypeCastExpression ∷
    instruction.JsxExpression ∷
    instruction.ObjectExpression ∷
    instruction.ObjectMethod ∷
    instruction.ArrayExpression ∷
    instruction.JsxFragment ∷
    instruction.RegExpLiteral ∷
    instruction.MetaProperty ∷
    instruction.PropertyStore ∷
    instruction.PropertyLoad ∷
    instruction.PropertyDelete ∷
    instruction.ComputedStore ∷
    instruction.ComputedLoad ∷
    instruction.ComputedDelete ∷
    instruction.LoadGlobal ∷
    instruction.StoreGlobal ∷
    instruction.FunctionExpression ∷
    instruction.TaggedTemplateExpression ∷
    instruction.TemplateLiteral ∷
    instruction.Await ∷
    instruction.GetIterator ∷
    instruction.IteratorNext ∷
    instruction.NextPropertyOf ∷
    instruction.PrefixUpdate ∷
    instruction.PostfixUpdate ∷
    instruction.Debugger ∷
    instruction.StartMemoize ∷
    instruction.FinishMemoize ∷
    []
