mod Grown
