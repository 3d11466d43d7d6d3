-- Several pieces that are appended one after another.
use Rattle.std.proofs.Common.{◌≡◌, ◌++◌, List, append_assoc}

pub five_more : {A : Type 0} (old one two three four five a b c d e : List A) → one ≡ old ++ a → two ≡ one ++ b → three ≡ two ++ c → four ≡ three ++ d → five ≡ four ++ e
    → five ≡ old ++ (a ++ (b ++ (c ++ (d ++ e))))
five_more old one two three four five a b c d e p q r s t = rw (t, s, r, q, p) (simp append_assoc)

pub six_more : {A : Type 0} (old one two three four five six a b c d e f : List A) → one ≡ old ++ a → two ≡ one ++ b → three ≡ two ++ c → four ≡ three ++ d → five ≡ four ++ e
    → six ≡ five ++ f → six ≡ old ++ (a ++ (b ++ (c ++ (d ++ (e ++ f)))))
six_more old one two three four five six a b c d e f p q r s t u = rw (u, t, s, r, q, p) (simp append_assoc)
