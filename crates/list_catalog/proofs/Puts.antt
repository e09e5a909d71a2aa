-- What a value that is put into a table makes of its members.
use Rattle.std.proofs.Common.{◌≡◌, ℕ, List, [], ◌∷◌, ◌++◌, String, Global, Ordering, Less, Equal, Greater, string_bytes, refl, ap, ◌∙◌}
use Rattle.std.specs.Ordering.{match_ordering}
use Rattle.std.specs.BTreeMap.{insert_entry}
use Rattle.std.specs.String.{string_cmp}
use Rattle.toml.specs.Data.{item, string, push_item}
use Rattle.toml.specs.View.{view, members_view}
use Rattle.toml.specs.declared.value.Value.{Value}
use Rattle.toml.proofs.Views.{Entry}
use Rattle.list_catalog.specs.Writing.{items_of, with_member}

-- members by how two keys compare
members_view-match_ordering : (o : Ordering) (a b c : List Entry)
    → members_view (match_ordering o a b c) ≡ match_ordering o (members_view a) (members_view b) (members_view c)
members_view-match_ordering Less a b c = refl
members_view-match_ordering Equal a b c = refl
members_view-match_ordering Greater a b c = refl

-- an entry that goes into a map is a member that goes to its place
pub members_view-insert_entry : (es : List Entry) (k : String Global) (v : Value)
    → members_view (insert_entry string_cmp es k v) ≡ with_member (string_bytes k) (view v) (members_view es)
members_view-insert_entry [] k v = refl
members_view-insert_entry (e ∷ es) k v = members_view-match_ordering (string_cmp k e.0) _ _ _ ∙ rw (members_view-insert_entry es k v)

-- one more text at the end of a list
pub items_of-push : (texts : List (List ℕ)) (text : List ℕ)
    → push_item (items_of texts) (string text) ≡ items_of (texts ++ text ∷ [])
items_of-push [] text = refl
items_of-push (t ∷ texts) text = ap (item (string t)) (items_of-push texts text)
