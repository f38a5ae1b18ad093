-- The parts of each kind of instruction and of terminal, in the order of the kinds' numbers.
use Rattle.std.specs.Prelude.{Bool, true, false, List, [], ◌∷◌}
use Rattle.visitors.specs.declared.arity.Arity.{Arity}
use Rattle.visitors.specs.declared.arity.Arity.TheVariants.{Exactly, AtLeast, Between, UpToSuccessors}
use Rattle.visitors.specs.declared.shapes.InstructionShape.{InstructionShape}
use Rattle.visitors.specs.declared.shapes.TerminalShape.{TerminalShape}

abbrev instruction : Arity → Arity → InstructionShape
instruction targets reads = record { targets = targets; reads = reads }

abbrev terminal : Arity → Arity → Bool → TerminalShape
terminal operands successors falls = record { operands = operands; successors = successors; falls_through = falls }

abbrev pub instruction_shapes : List InstructionShape
instruction_shapes =
    -- LoadLocal
    instruction (Exactly 0) (Exactly 1) ∷
    -- LoadContext
    instruction (Exactly 0) (Exactly 1) ∷
    -- DeclareLocal
    instruction (Exactly 1) (Exactly 0) ∷
    -- DeclareContext
    instruction (Exactly 1) (Exactly 0) ∷
    -- StoreLocal
    instruction (Exactly 1) (Exactly 1) ∷
    -- StoreContext
    instruction (Exactly 1) (Exactly 1) ∷
    -- Destructure
    instruction (AtLeast 0) (Exactly 1) ∷
    -- Primitive
    instruction (Exactly 0) (Exactly 0) ∷
    -- JSXText
    instruction (Exactly 0) (Exactly 0) ∷
    -- BinaryExpression
    instruction (Exactly 0) (Exactly 2) ∷
    -- NewExpression
    instruction (Exactly 0) (AtLeast 1) ∷
    -- CallExpression
    instruction (Exactly 0) (AtLeast 1) ∷
    -- MethodCall
    instruction (Exactly 0) (AtLeast 2) ∷
    -- UnaryExpression
    instruction (Exactly 0) (Exactly 1) ∷
    -- TypeCastExpression
    instruction (Exactly 0) (Exactly 1) ∷
    -- JsxExpression
    instruction (Exactly 0) (AtLeast 0) ∷
    -- ObjectExpression
    instruction (Exactly 0) (AtLeast 0) ∷
    -- ObjectMethod
    instruction (Exactly 0) (AtLeast 0) ∷
    -- ArrayExpression
    instruction (Exactly 0) (AtLeast 0) ∷
    -- JsxFragment
    instruction (Exactly 0) (AtLeast 0) ∷
    -- RegExpLiteral
    instruction (Exactly 0) (Exactly 0) ∷
    -- MetaProperty
    instruction (Exactly 0) (Exactly 0) ∷
    -- PropertyStore
    instruction (Exactly 0) (Exactly 2) ∷
    -- PropertyLoad
    instruction (Exactly 0) (Exactly 1) ∷
    -- PropertyDelete
    instruction (Exactly 0) (Exactly 1) ∷
    -- ComputedStore
    instruction (Exactly 0) (Exactly 3) ∷
    -- ComputedLoad
    instruction (Exactly 0) (Exactly 2) ∷
    -- ComputedDelete
    instruction (Exactly 0) (Exactly 2) ∷
    -- LoadGlobal
    instruction (Exactly 0) (Exactly 0) ∷
    -- StoreGlobal
    instruction (Exactly 0) (Exactly 1) ∷
    -- FunctionExpression
    instruction (Exactly 0) (AtLeast 0) ∷
    -- TaggedTemplateExpression
    instruction (Exactly 0) (AtLeast 1) ∷
    -- TemplateLiteral
    instruction (Exactly 0) (AtLeast 0) ∷
    -- Await
    instruction (Exactly 0) (Exactly 1) ∷
    -- GetIterator
    instruction (Exactly 0) (Exactly 1) ∷
    -- IteratorNext
    instruction (Exactly 0) (Exactly 2) ∷
    -- NextPropertyOf
    instruction (Exactly 0) (Exactly 1) ∷
    -- PrefixUpdate
    instruction (Exactly 1) (Exactly 1) ∷
    -- PostfixUpdate
    instruction (Exactly 1) (Exactly 1) ∷
    -- Debugger
    instruction (Exactly 0) (Exactly 0) ∷
    -- StartMemoize
    instruction (Exactly 0) (AtLeast 0) ∷
    -- FinishMemoize
    instruction (Exactly 0) (Exactly 1) ∷
    []

abbrev pub terminal_shapes : List TerminalShape
terminal_shapes =
    -- Unreachable
    terminal (Exactly 0) (Exactly 0) false ∷
    -- Throw
    terminal (Exactly 1) (Exactly 0) false ∷
    -- Return
    terminal (Exactly 1) (Exactly 0) false ∷
    -- Goto
    terminal (Exactly 0) (Exactly 1) false ∷
    -- If
    terminal (Exactly 1) (Exactly 3) true ∷
    -- Branch
    terminal (Exactly 1) (Exactly 3) true ∷
    -- Switch
    terminal UpToSuccessors (AtLeast 1) true ∷
    -- DoWhile
    terminal (Exactly 0) (Exactly 3) true ∷
    -- While
    terminal (Exactly 0) (Exactly 3) true ∷
    -- For
    terminal (Exactly 0) (Between 4 5) true ∷
    -- ForOf
    terminal (Exactly 0) (Exactly 4) true ∷
    -- ForIn
    terminal (Exactly 0) (Exactly 3) true ∷
    -- Logical
    terminal (Exactly 0) (Exactly 2) true ∷
    -- Ternary
    terminal (Exactly 0) (Exactly 2) true ∷
    -- Optional
    terminal (Exactly 0) (Exactly 2) true ∷
    -- Label
    terminal (Exactly 0) (Exactly 2) true ∷
    -- Sequence
    terminal (Exactly 0) (Exactly 2) true ∷
    -- MaybeThrow
    terminal (Exactly 0) (Between 1 2) false ∷
    -- Try
    terminal (Between 0 1) (Exactly 3) true ∷
    -- Scope
    terminal (Exactly 0) (Exactly 2) true ∷
    -- PrunedScope
    terminal (Exactly 0) (Exactly 2) true ∷
    []
