-- The shape of a list's table: of some number of rows, and of the best one.
use Rattle.std.specs.Prelude.{◌≡◌, ℕ, ◌+◌, ◌*◌, ◌^◌, ◌<◌, ◌≤◌, if◌then◌else◌, nat_lt, Option, Some, None, Result, Ok, Err}
use Rattle.quantity_limits.specs.Shape.{IsShape}
use Rattle.quantity_limits.specs.declared.TheConstants.{MOST_CELLS, MOST_ROWS, MOST_WIDTH}
use Rattle.key_table.specs.Sorting.{Sorted}
use Rattle.key_table.specs.Width.{IsBest, MakesTable, fullest, width_of}
use Rattle.key_table.specs.declared.shape.Shape.{Shape}
use Rattle.key_table.specs.declared.shape.ShapeFault.{ShapeFault}
use Rattle.key_table.specs.declared.shape.ShapeLimit.{ShapeLimit}
use Rattle.key_table.specs.declared.shape.ShapeLimit.TheVariants.{TooWide, TooLarge}

-- so many rows are as many bytes wide as the list needs, and a database may have that shape
pub record HasShape (list : Sorted) (shape : Shape) : Type 0 where
  pub width : shape.width ≡ width_of list.size list.most shape.rows list.pairs
  pub is_shape : IsShape shape.rows shape.width

-- rows of so many bytes pass a limit of a database
abbrev pub Passes : ShapeLimit → ℕ → ℕ → Type 0
Passes TooWide rows width = MOST_WIDTH < width
Passes TooLarge rows width = (width ≤ MOST_WIDTH) × (MOST_CELLS < rows * width)

-- so many rows would be that wide, their fullest with so many entries, and pass that limit
pub record IsFault (list : Sorted) (fault : ShapeFault) : Type 0 where
  pub entries : fault.entries ≡ fullest fault.rows list.pairs
  pub width : fault.width ≡ width_of list.size list.most fault.rows list.pairs
  pub passes : Passes fault.limit fault.rows fault.width

-- rows of so many bytes, the fullest with so many entries, have a shape, or pass a limit
abbrev pub Judges : ℕ → ℕ → ℕ → Result Shape ShapeFault → Type 0
Judges rows entries width (Ok shape) = (shape ≡ record { rows = rows; width = width }) × IsShape rows width
Judges rows entries width (Err fault) = (fault.rows ≡ rows) × (fault.entries ≡ entries) × (fault.width ≡ width) × Passes fault.limit rows width

-- the shape of so many rows, or why they make no database
abbrev pub ShapesOf : Sorted → ℕ → Result Shape ShapeFault → Type 0
ShapesOf list rows (Ok shape) = (shape.rows ≡ rows) × HasShape list shape
ShapesOf list rows (Err fault) = (fault.rows ≡ rows) × IsFault list fault

-- so many rows make a table of the list that is a database
abbrev pub Makes : Sorted → ℕ → Type 0
Makes list rows = MakesTable list.size list.most list.pairs rows

-- the bytes that each of so many rows has, and their number
abbrev pub cost : Sorted → ℕ → ℕ
cost list rows = rows + width_of list.size list.most rows list.pairs

-- the best shape of those whose rows are one of the first so many powers of two
pub record IsBestOf (list : Sorted) (powers : ℕ) (shape : Shape) : Type 0 where
  pub has : HasShape list shape
  pub power : ℕ
  pub few : power < powers
  pub is_power : shape.rows ≡ 2 ^ power
  pub least : (k : ℕ) → k < powers → Makes list (2 ^ k) → shape.rows + shape.width ≤ cost list (2 ^ k)
  pub fewest : (k : ℕ) → k < powers → Makes list (2 ^ k) → shape.rows + shape.width ≡ cost list (2 ^ k) → shape.rows ≤ 2 ^ k

-- that shape, or that none of those powers makes a database
abbrev pub BestOf : Sorted → ℕ → Option Shape → Type 0
BestOf list powers None = (k : ℕ) → k < powers → Makes list (2 ^ k) → ⊥
BestOf list powers (Some shape) = IsBestOf list powers shape

-- the one of two shapes that has fewer rows and bytes of a row together: the first where both have as many
abbrev pub lesser : Shape → Shape → Shape
lesser one other = if nat_lt (other.rows + other.width) (one.rows + one.width) then other else one

-- the best shape, or, where no number of rows makes a database, why the greatest doesn't
abbrev pub ShapesBest : Sorted → Result Shape ShapeFault → Type 0
ShapesBest list (Ok shape) = HasShape list shape × IsBest list.size list.most list.pairs shape.rows
ShapesBest list (Err fault) = (fault.rows ≡ MOST_ROWS) × IsFault list fault × ((rows : ℕ) → Makes list rows → ⊥)
