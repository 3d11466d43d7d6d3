-- The proof that a story has only whole contents is unique.
use Rattle.std.specs.Prelude.{ℕ, List, [], ◌∷◌, length, Option, Some, None, IfSome}
use Rattle.std.specs.Coded.{Coded-set, coded_ℕ, coded_list, coded_option, ×_prop, Π_prop, Unit-prop, le_prop}
use Rattle.sector_dev.specs.Disk.{Disk, Sector, Story, IsContent, AreContents, HoldsContents, IsWhole, Each}
use Rattle.sector_dev.specs.Behind.{ReadsAs}

content_prop : (c : List ℕ) → IsProp (IsContent c)
content_prop c = ×_prop (Coded-set coded_ℕ (length c) 512) (Π_prop (λ k. le_prop))

pub contents_prop : (cs : List (List ℕ)) → IsProp (AreContents cs)
contents_prop [] = Unit-prop
contents_prop (c ∷ cs) = ×_prop (content_prop c) (contents_prop cs)

some_prop : (o : Option (List ℕ)) → IsProp (IfSome o IsContent)
some_prop None = Unit-prop
some_prop (Some c) = content_prop c

holds_prop : (s : Sector) → IsProp (HoldsContents s)
holds_prop s = ×_prop (some_prop s.synced) (×_prop (contents_prop s.pending) (some_prop s.shown))

whole_prop : (d : Disk) → IsProp (IsWhole d)
unfolding IsWhole
whole_prop d = Π_prop (λ n. holds_prop (d.at n))

pub each_prop : (s : Story) → IsProp (Each IsWhole s)
each_prop [] = Unit-prop
each_prop (d ∷ ds) = ×_prop (whole_prop d) (each_prop ds)

pub reads_prop : (d : Disk) (start : ℕ) (cs : List (List ℕ)) → IsProp (ReadsAs d start cs)
reads_prop d start cs = Π_prop (λ n. Π_prop (λ c. Π_prop (λ here. Coded-set (coded_option (coded_list coded_ℕ)) (d.at n).shown (Some c))))
