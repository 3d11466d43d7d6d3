-- A field that was written is the field that is read, and the walk over it finds nothing bad.
use Rattle.std.specs.List.{flat_map}
use Rattle.std.proofs.Common.{◌≡◌, ℕ, zero, suc, ◌+◌, ◌<◌, ◌≤◌, Bool, List, [], ◌++◌, map, length, refl, ap, ◌∙◌, arith, add-zero}
use Rattle.flatbuf.specs.declared.limits.TheConstants.{MAX_BUFFER_TABLES}
use Rattle.flatbuf.specs.Lookup.{target, slot, table_at, table_behind, text_of, elements, targets, scalar_of, is_set, Place}
use Rattle.flatbuf.specs.Walk.{spans, vector_at, head_things}
use Rattle.flatbuf.specs.Held.{Has, HasAll}
use Rattle.flatbuf.specs.Laid.{count_of, slots_of}
use Rattle.flatbuf.specs.Tree.{text, references, scalar, refers}
use Rattle.arrow_schema.specs.Column.{Kind, Column, Columns, nulls, booleans, integers, dates, timestamps, texts, large_texts, binaries, large_binaries, fixed_binaries, lists, large_lists, fixed_lists, structs, column, no_column, and_column}
use Rattle.arrow_schema.specs.Preorder.{depth, depth_below, depth_all}
use Rattle.ipc_message.specs.Raw.{raw_fields_of, raw_field}
use Rattle.ipc_message.specs.Header.{type_things, encoding_things, pairs_things, field_table_things, field_things, parameters_in, pairs_in, field_with, field_at}
use Rattle.ipc_write.specs.Trees.{bit, code_of, type_tree, pairs_slot, dictionary_slot, ids_for, ids_of, field_tree, child_nodes, field_nodes}
use Rattle.ipc_write.specs.Decoded.{parameters_of, raw_of, raw_below, raw_of_all}
use Rattle.ipc_write.specs.Walked.{HoldsTimes, type_tables, encoding_tables, tables_of, tables_below, tables_of_all}
use Rattle.ipc_write.proofs.Fine.{Fine, fine_none, fine_append, fine_after, fine_spans, fine_text, fine_references, fine_head, text_read, elements_read}
use Rattle.ipc_write.proofs.TypeRead.{is_set-bit, parameters_read, type_fine, encoding_read, encoding_fine, after_dictionary, pairs_read, pairs_fine}

mutual
  unfolding field_at field_with field_tree child_nodes field_nodes raw_of raw_below raw_of_all depth depth_below depth_all

  pub field_read : (supported : ℕ → Bool) (left : ℕ) (bytes : List ℕ) (at id : ℕ) (c : Column) → HoldsTimes supported → depth c + 2 ≤ left → Has bytes at (field_tree id c) → field_at supported left bytes at ≡ raw_of id c
  field_read supported zero bytes at id c holds deep has = absurd (omega arith)
  field_read supported (suc left) bytes at id (column name nullable kind dictionary pairs) holds deep has =
      let t : Place = table_at bytes at in
      let s = has.1 in
      let after = after_dictionary bytes t id dictionary (refers (references (child_nodes (id + ids_for dictionary) kind)) (pairs_slot pairs)) s.1.1.1.1 in
      let name_is : text_of bytes (slot bytes t 0) ≡ name = text_read bytes (slot bytes t 0) s.0.0 name s.0.1 s.0.3 in
      let flag_is : is_set (scalar_of 1 0 bytes (slot bytes t 1)) ≡ nullable = rw (s.1.0.1, s.1.0.2) (is_set-bit nullable) in
      let code_is : scalar_of 1 0 bytes (slot bytes t 2) ≡ code_of kind = rw s.1.1.0.1 s.1.1.0.2 in
      let type_is : parameters_in supported bytes (code_of kind) (table_behind bytes (slot bytes t 3)) ≡ parameters_of kind = parameters_read supported bytes (slot bytes t 3) s.1.1.1.0.0 kind holds.0 holds.1 s.1.1.1.0.1 s.1.1.1.0.3 in
      let dictionary_is = encoding_read bytes t id dictionary (refers (references (child_nodes (id + ids_for dictionary) kind)) (pairs_slot pairs)) s.1.1.1.1 in
      let children_are : raw_fields_of (map (field_at supported left bytes) (elements bytes (slot bytes t 5))) ≡ raw_below (id + ids_for dictionary) kind =
      ap (λ (places : List ℕ). raw_fields_of (map (field_at supported left bytes) places)) (elements_read bytes (slot bytes t 5) after.0.0 (child_nodes (id + ids_for dictionary) kind) after.0.1 after.0.3)
      ∙ children_read supported left bytes (target bytes after.0.0 + 4) (id + ids_for dictionary) kind holds (omega arith) after.0.3.2 in
      let pairs_are : pairs_in bytes (slot bytes t 6) ≡ pairs = pairs_read bytes t 6 pairs after.1 in
      let parameters_are : parameters_in supported bytes (scalar_of 1 0 bytes (slot bytes t 2)) (table_behind bytes (slot bytes t 3)) ≡ parameters_of kind =
      ap (λ (code : ℕ). parameters_in supported bytes code (table_behind bytes (slot bytes t 3))) code_is ∙ type_is in
      λ i. raw_field (name_is i) (flag_is i) (code_is i) (parameters_are i) (dictionary_is i) (children_are i) (pairs_are i)

  children_read : (supported : ℕ → Bool) (left : ℕ) (bytes : List ℕ) (first id : ℕ) (kind : Kind) → HoldsTimes supported → depth_below kind + 2 ≤ left → HasAll bytes first (child_nodes id kind)
      → raw_fields_of (map (field_at supported left bytes) (targets (count_of (child_nodes id kind)) bytes first)) ≡ raw_below id kind
  children_read supported left bytes first id nulls holds deep has = refl
  children_read supported left bytes first id booleans holds deep has = refl
  children_read supported left bytes first id (integers bits signed) holds deep has = refl
  children_read supported left bytes first id (dates unit) holds deep has = refl
  children_read supported left bytes first id (timestamps unit timezone) holds deep has = refl
  children_read supported left bytes first id texts holds deep has = refl
  children_read supported left bytes first id large_texts holds deep has = refl
  children_read supported left bytes first id binaries holds deep has = refl
  children_read supported left bytes first id large_binaries holds deep has = refl
  children_read supported left bytes first id (fixed_binaries width) holds deep has = refl
  children_read supported left bytes first id (lists item) holds deep has = rw (field_read supported left bytes (target bytes first) id item holds deep has.0) refl
  children_read supported left bytes first id (large_lists item) holds deep has = rw (field_read supported left bytes (target bytes first) id item holds deep has.0) refl
  children_read supported left bytes first id (fixed_lists size item) holds deep has = rw (field_read supported left bytes (target bytes first) id item holds deep has.0) refl
  children_read supported left bytes first id (structs parts) holds deep has = fields_read supported left bytes first id parts holds deep has

  pub fields_read : (supported : ℕ → Bool) (left : ℕ) (bytes : List ℕ) (first id : ℕ) (cs : Columns) → HoldsTimes supported → depth_all cs + 2 ≤ left → HasAll bytes first (field_nodes id cs)
      → raw_fields_of (map (field_at supported left bytes) (targets (count_of (field_nodes id cs)) bytes first)) ≡ raw_of_all id cs
  fields_read supported left bytes first id no_column holds deep has = refl
  fields_read supported left bytes first id (and_column c cs) holds deep has =
      rw (field_read supported left bytes (target bytes first) id c holds (omega arith) has.0, fields_read supported left bytes (first + 4) (id + ids_of c) cs holds (omega arith) has.1) refl

mutual
  unfolding field_things field_table_things field_tree child_nodes field_nodes depth depth_below depth_all

  pub field_fine : (supported : ℕ → Bool) (left : ℕ) (bytes : List ℕ) (at id n : ℕ) (c : Column) → HoldsTimes supported → depth c + 2 ≤ left → n + tables_of c ≤ MAX_BUFFER_TABLES → Has bytes at (field_tree id c)
      → Fine bytes (field_things supported left bytes at) n (n + tables_of c)
  field_fine supported zero bytes at id n c holds deep room has = absurd (omega arith)
  field_fine supported (suc left) bytes at id n (column name nullable kind dictionary pairs) holds deep room has =
      let t : Place = table_at bytes at in
      let s = has.1 in
      let below = refers (references (child_nodes (id + ids_for dictionary) kind)) (pairs_slot pairs) in
      let after = after_dictionary bytes t id dictionary below s.1.1.1.1 in
      let code_is : scalar_of 1 0 bytes (slot bytes t 2) ≡ code_of kind = rw s.1.1.0.1 s.1.1.0.2 in
      let n1 : ℕ = n + 1 in
      let n2 : ℕ = n1 + type_tables kind in
      let n3 : ℕ = n2 + encoding_tables dictionary in
      let n4 : ℕ = n3 + tables_below kind in
      let all : n + tables_of (column name nullable kind dictionary pairs) ≡ n4 + length pairs = omega arith in
      let shallow : 1 < left = omega arith in
      let head : Fine bytes (head_things bytes at) n n1 = fine_head bytes at (slots_of (refers (text name) (scalar 1 (bit nullable) (scalar 1 (code_of kind) (refers (type_tree kind) (dictionary_slot id dictionary below)))))) n has.0 (omega arith) in
      let name_fine = fine_text bytes (slot bytes t 0) s.0.0 n1 name s.0.1 s.0.2 s.0.3 in
      let flag_fine = fine_spans bytes 1 (slot bytes t 1) s.1.0.0 n1 s.1.0.1 s.1.0.3 in
      let code_fine = fine_spans bytes 1 (slot bytes t 2) s.1.1.0.0 n1 s.1.1.0.1 s.1.1.0.3 in
      let type_here : Fine bytes (type_things supported left bytes (scalar_of 1 0 bytes (slot bytes t 2)) (slot bytes t 3)) n1 n2 =
      rw code_is (type_fine supported bytes left (slot bytes t 3) s.1.1.1.0.0 n1 kind holds.0 holds.1 s.1.1.1.0.1 s.1.1.1.0.2 s.1.1.1.0.3 (omega arith) (omega arith)) in
      let dictionary_here = encoding_fine bytes left t n2 id dictionary below s.1.1.1.1 shallow (omega arith) in
      let vector_here = fine_references bytes (slot bytes t 5) after.0.0 n3 (child_nodes (id + ids_for dictionary) kind) after.0.1 after.0.2 after.0.3 in
      let children_here : Fine bytes (flat_map (field_things supported left bytes) (elements bytes (slot bytes t 5))) n3 n4 =
      rw (elements_read bytes (slot bytes t 5) after.0.0 (child_nodes (id + ids_for dictionary) kind) after.0.1 after.0.3)
      (children_fine supported left bytes (target bytes after.0.0 + 4) (id + ids_for dictionary) n3 kind holds (omega arith) (omega arith) after.0.3.2) in
      let pairs_here : Fine bytes (pairs_things left bytes (slot bytes t 6)) n4 (n4 + length pairs) = pairs_fine bytes left t 6 n4 pairs after.1 (omega arith) (omega arith) in
      let a1 = fine_after bytes (vector_at 1 bytes (slot bytes t 0)) (spans 1 (slot bytes t 1)) n1 n1 name_fine flag_fine in
      let a2 = fine_after bytes (vector_at 1 bytes (slot bytes t 0) ++ spans 1 (slot bytes t 1)) (spans 1 (slot bytes t 2)) n1 n1 a1 code_fine in
      let a3 = fine_append bytes (vector_at 1 bytes (slot bytes t 0) ++ spans 1 (slot bytes t 1) ++ spans 1 (slot bytes t 2)) (type_things supported left bytes (scalar_of 1 0 bytes (slot bytes t 2)) (slot bytes t 3)) n1 n1 n2 a2 type_here in
      let a4 = fine_append bytes (vector_at 1 bytes (slot bytes t 0) ++ spans 1 (slot bytes t 1) ++ spans 1 (slot bytes t 2) ++ type_things supported left bytes (scalar_of 1 0 bytes (slot bytes t 2)) (slot bytes t 3)) (encoding_things left bytes (slot bytes t 4)) n1 n2 n3 a3 dictionary_here in
      let own : Fine bytes (field_table_things supported left bytes t) n1 n3 = fine_append bytes (vector_at 1 bytes (slot bytes t 0) ++ spans 1 (slot bytes t 1) ++ spans 1 (slot bytes t 2) ++ type_things supported left bytes (scalar_of 1 0 bytes (slot bytes t 2)) (slot bytes t 3) ++ encoding_things left bytes (slot bytes t 4)) (vector_at 4 bytes (slot bytes t 5)) n1 n3 n3 a4 vector_here in
      let b1 = fine_append bytes (field_table_things supported left bytes t) (flat_map (field_things supported left bytes) (elements bytes (slot bytes t 5))) n1 n3 n4 own children_here in
      let b2 = fine_append bytes (field_table_things supported left bytes t ++ flat_map (field_things supported left bytes) (elements bytes (slot bytes t 5))) (pairs_things left bytes (slot bytes t 6)) n1 n4 (n4 + length pairs) b1 pairs_here in
      rw all (fine_append bytes (head_things bytes at) (field_table_things supported left bytes t ++ flat_map (field_things supported left bytes) (elements bytes (slot bytes t 5)) ++ pairs_things left bytes (slot bytes t 6)) n n1 (n4 + length pairs) head b2)

  children_fine : (supported : ℕ → Bool) (left : ℕ) (bytes : List ℕ) (first id n : ℕ) (kind : Kind) → HoldsTimes supported → depth_below kind + 2 ≤ left → n + tables_below kind ≤ MAX_BUFFER_TABLES → HasAll bytes first (child_nodes id kind)
      → Fine bytes (flat_map (field_things supported left bytes) (targets (count_of (child_nodes id kind)) bytes first)) n (n + tables_below kind)
  children_fine supported left bytes first id n nulls holds deep room has = rw (add-zero n) (fine_none bytes n)
  children_fine supported left bytes first id n booleans holds deep room has = rw (add-zero n) (fine_none bytes n)
  children_fine supported left bytes first id n (integers bits signed) holds deep room has = rw (add-zero n) (fine_none bytes n)
  children_fine supported left bytes first id n (dates unit) holds deep room has = rw (add-zero n) (fine_none bytes n)
  children_fine supported left bytes first id n (timestamps unit timezone) holds deep room has = rw (add-zero n) (fine_none bytes n)
  children_fine supported left bytes first id n texts holds deep room has = rw (add-zero n) (fine_none bytes n)
  children_fine supported left bytes first id n large_texts holds deep room has = rw (add-zero n) (fine_none bytes n)
  children_fine supported left bytes first id n binaries holds deep room has = rw (add-zero n) (fine_none bytes n)
  children_fine supported left bytes first id n large_binaries holds deep room has = rw (add-zero n) (fine_none bytes n)
  children_fine supported left bytes first id n (fixed_binaries width) holds deep room has = rw (add-zero n) (fine_none bytes n)
  children_fine supported left bytes first id n (lists item) holds deep room has = fine_after bytes (field_things supported left bytes (target bytes first)) [] n (n + tables_of item) (field_fine supported left bytes (target bytes first) id n item holds deep room has.0) (fine_none bytes (n + tables_of item))
  children_fine supported left bytes first id n (large_lists item) holds deep room has = fine_after bytes (field_things supported left bytes (target bytes first)) [] n (n + tables_of item) (field_fine supported left bytes (target bytes first) id n item holds deep room has.0) (fine_none bytes (n + tables_of item))
  children_fine supported left bytes first id n (fixed_lists size item) holds deep room has = fine_after bytes (field_things supported left bytes (target bytes first)) [] n (n + tables_of item) (field_fine supported left bytes (target bytes first) id n item holds deep room has.0) (fine_none bytes (n + tables_of item))
  children_fine supported left bytes first id n (structs parts) holds deep room has = fields_fine supported left bytes first id n parts holds deep room has

  pub fields_fine : (supported : ℕ → Bool) (left : ℕ) (bytes : List ℕ) (first id n : ℕ) (cs : Columns) → HoldsTimes supported → depth_all cs + 2 ≤ left → n + tables_of_all cs ≤ MAX_BUFFER_TABLES → HasAll bytes first (field_nodes id cs)
      → Fine bytes (flat_map (field_things supported left bytes) (targets (count_of (field_nodes id cs)) bytes first)) n (n + tables_of_all cs)
  fields_fine supported left bytes first id n no_column holds deep room has = rw (add-zero n) (fine_none bytes n)
  fields_fine supported left bytes first id n (and_column c cs) holds deep room has =
      let all : n + (tables_of c + tables_of_all cs) ≡ n + tables_of c + tables_of_all cs = omega arith in
      rw all (fine_append bytes (field_things supported left bytes (target bytes first)) (flat_map (field_things supported left bytes) (targets (count_of (field_nodes (id + ids_of c) cs)) bytes (first + 4))) n (n + tables_of c) (n + tables_of c + tables_of_all cs)
      (field_fine supported left bytes (target bytes first) id n c holds (omega arith) (omega arith) has.0)
      (fields_fine supported left bytes (first + 4) (id + ids_of c) (n + tables_of c) cs holds (omega arith) (omega arith) has.1))
