-- The plan by which the rows of a list's table are fetched.
use Rattle.std.proofs.Common.{◌≡◌, inl, ℕ, ◌+◌, ◌<◌, ◌≤◌, length, refl, arith}
use Rattle.wire_frames.specs.declared.scheme.TheConstants.{SHAMIR, XOR}
use Rattle.query_rounds.specs.Plan.{IsPlan}
use Rattle.list_catalog.specs.Facts.{AreSizes, Facts}
use Rattle.list_catalog.specs.Serving.{CanServe, Serving}
use Rattle.list_tool.specs.Asking.{IsListTable, plan_for, table_for}
use Rattle.list_tool.specs.declared.table.ListTable.{ListTable}

-- a catalog's sizes are those of a table
pub is_table : (f : Facts) → AreSizes f.digest f.entries f.rows f.value f.width → IsListTable (table_for f)
is_table f sizes = record {
  known = record { least = sizes.long_digest; size = sizes.short_digest; most = sizes.short_value };
  shape = sizes.shape;
}

-- servers that can serve make a plan
pub is_plan : (table : ListTable) (servers : Serving) → IsListTable table → CanServe servers.addresses servers.degree servers.agree
    → IsPlan (plan_for table servers)
is_plan table servers is can = record {
  numbers = record {
    scheme = inl refl;
    private = omega (arith, can.hidden);
    few_private = omega (arith, can.strong, can.within, can.few);
    agreement = omega (arith, can.strong);
    few_agree = omega (arith, can.within, can.few);
    servers = can.within;
    few_servers = can.few;
    all_agree = λ two. absurd (omega (arith, two));
    all_answer = λ two. absurd (omega (arith, two));
    session = omega arith;
    shape = is.shape;
    blocks = record {
      some_version = omega arith;
      two_versions = omega arith;
      some_blocks = omega arith;
      few_blocks = omega arith;
      one_block = λ _. refl;
      few_bytes = omega (arith, is.shape.few_bytes);
    };
  };
  private = can.hidden;
  held_whole = λ two. absurd (omega (arith, two));
}
