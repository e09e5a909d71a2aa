-- What is written of keys.
use Rattle.std.specs.Prelude.{ℕ, ◌==◌, if◌then◌else◌, Bool, List, [], ◌∷◌, ◌++◌, length, flat_map, slice_index_or, codes}
use Rattle.std.specs.List.{concat, range_with_len}
use Rattle.block_decoder.specs.Text.{block_line}
use Rattle.list_finds.specs.Answers.{answer_to}
use Rattle.list_finds.specs.declared.answers.Answer.{Answer}
use Rattle.list_finds.specs.declared.answers.Answer.TheVariants.{Unknown, Broken, Absent, Present}
use Rattle.list_tool.specs.declared.text.ValueText.{ValueText}
use Rattle.list_tool.specs.declared.text.ValueText.TheVariants.{Nothing, Bytes, Hexadecimal}

-- how values of at most so many bytes are written
abbrev pub value_text : ℕ → Bool → ValueText
value_text most hex = if most == 0 then Nothing else if hex then Hexadecimal else Bytes

-- the line of a key that the list has: `present`, a tab, the key, and behind a further tab the value, where the list has values: as it is, or in
-- lower-case hexadecimal
abbrev pub present_line : ValueText → List ℕ → List ℕ → List ℕ
present_line Nothing key value = concat (codes "present\t" ∷ key ∷ codes "\n" ∷ [])
present_line Bytes key value = concat (codes "present\t" ∷ key ∷ codes "\t" ∷ value ∷ codes "\n" ∷ [])
present_line Hexadecimal key value = concat (codes "present\t" ∷ key ∷ codes "\t" ∷ []) ++ block_line value

-- the line of a key, by what is known of it: `absent` only where the list doesn't have it
abbrev pub line_of : ValueText → List ℕ → Answer (List ℕ) → List ℕ
line_of values key Unknown = concat (codes "unknown\t" ∷ key ∷ codes "\n" ∷ [])
line_of values key Broken = concat (codes "unknown\t" ∷ key ∷ codes "\n" ∷ [])
line_of values key Absent = concat (codes "absent\t" ∷ key ∷ codes "\n" ∷ [])
line_of values key (Present value) = present_line values key value

-- the line of the key at a place
abbrev pub line_at : ValueText → List (List ℕ) → List (Answer (List ℕ)) → ℕ → List ℕ
line_at values keys answers place = line_of values (slice_index_or keys place []) (answer_to answers place)

-- the lines of all keys, in their order
unfoldable pub text_of : ValueText → List (List ℕ) → List (Answer (List ℕ)) → List ℕ
text_of values keys answers = flat_map (line_at values keys answers) (range_with_len 0 (length answers))
