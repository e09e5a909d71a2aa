-- How words tell to build a list.
use Rattle.std.specs.Prelude.{ℕ, Bool, true, false, Option, None, Some, option_map}
use Rattle.list_builds.specs.Order.{Order}
use Rattle.list_builds.specs.declared.order.Values.{Values}
use Rattle.list_builds.specs.declared.order.Values.TheVariants.{Absent, UpToLongest, UpTo}
use Rattle.list_words.specs.declared.asked.Build.{Build}

-- what lines say beside keys: nothing, or a value, of as many bytes as the longest one has where no number is said
abbrev pub values_for : Bool → Option ℕ → Values
values_for false bytes = Absent
values_for true None = UpToLongest
values_for true (Some most) = UpTo most

-- how the list is built, and where its parts are
abbrev pub order_for : Build → Order
order_for build = record {
  digest = build.digest_bytes;
  values = values_for build.values build.value_bytes;
  rows = build.rows;
  keys = build.keys.now;
  coins = build.coins.now;
  database = build.database.now;
  catalog = option_map (λ name. name.now) build.catalog;
}
