use Rattle.std.proofs.Common.{◌≡◌, ◌+◌, true, map, take, drop}
use Rattle.std.specs.List.{list_all}
use Rattle.sector_dev.specs.Time.{OnlyReads}
use Rattle.catalogue.specs.declared.limits.TheConstants.{MAX_SEGMENTS}
use Rattle.catalogue.specs.Entries.{plain_entry, plain_root, is_entry, names_of, root_names, segment_count, has_form}
use Rattle.pages.specs.Stored.{pages_shown}
use Rattle.pages.proofs.Behind.{behind}
use Rattle.pages.proofs.reading.read_pages.Given as goal

-- all tables are those so far, and after them those that are left, with as many segments as are left
abbrev pub invariant-loop-root : goal.invariant-loop-root
invariant-loop-root g l = let D = g.D.SectorDevice in record {
  same : D.size l.device ≡ D.size l.fn.device;
  count : D.failed l.device ≡ D.failed l.fn.device;
  moments : D.tells ≡ true → OnlyReads (D.story l.fn.device) (D.story l.device);
  found : D.tells ≡ true → pages_shown l.form (D.size l.fn.device) (D.story l.fn.device) MAX_SEGMENTS (map plain_root l.roots)
      ≡ behind (map plain_entry l.entries.items) (pages_shown l.form (D.size l.fn.device) (D.story l.fn.device) l.left (map plain_root (drop l.root-index l.roots)));
  entries : list_all is_entry (map plain_entry l.entries.items) ≡ true;
  names : names_of (map plain_entry l.entries.items) ≡ root_names (map plain_root (take l.root-index l.roots));
  few : segment_count (map plain_entry l.entries.items) + l.left ≡ MAX_SEGMENTS;
  form : has_form l.form (map plain_entry l.entries.items) ≡ true;
}
